use Rattle.std.proofs.Common.{◌<◌, Option, Some, Vec, Global, List, map, length, option_map, slice_set, ap, sym, ◌∙◌, subst}
use Rattle.std.proofs.lemmas.List.{length-map}
use Rattle.rl_types.specs.declared.numbers.Letter.{Letter}
use Rattle.rl_certificate.proofs.TableLaws.{map_set, row_mapped}
use Rattle.rl_certificate.proofs.table.Table.set.Goals as goal

abbrev words : Vec (Option (Vec Letter Global)) Global → List (Option (List Letter))
words row = map (option_map (λ (word : Vec Letter Global). word.items)) row.items

pub returns : goal.returns
returns c =
    let there : c.args.low < length c.args.self.now.rows.items = subst (λ n. c.args.low < n)
    (length-map c.args.self.now.rows.items words) c.requires.low in
    map_set words c.args.self.now.rows.items c.args.low c.put_word.new.row
    ∙ ap (slice_set (map words c.args.self.now.rows.items) c.args.low)
    (ap (map (option_map (λ (word : Vec Letter Global). word.items))) c.put_word.ensures
    ∙ map_set (option_map (λ (word : Vec Letter Global). word.items)) c.index_mut.result.now.items c.args.high (Some c.args.word)
    ∙ ap (λ row. slice_set row c.args.high (Some c.args.word.items)) (ap words c.index_mut.ensures.value ∙ sym
    (row_mapped words c.args.self.now.rows.items c.args.low _ there)))
