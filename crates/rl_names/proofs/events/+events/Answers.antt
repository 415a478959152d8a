use Rattle.std.proofs.Common.{◌≡◌, ◌++◌, map, OnOk, sym, ap, subst, ◌∙◌}
use Rattle.std.proofs.lemmas.List.{append-nil}
use Rattle.std.specs.List.{flat_map}
use Rattle.rl_names.specs.Events.{seen, embedding_events, union_events}
use Rattle.rl_names.specs.Uses.{concatenation_part_uses, union_part_uses}
use Rattle.rl_names.proofs.EventLaws.{literal_leaf, number_leaf, range_leaf, set_leaf, regular_leaf, name_leaf, group_inside, scanner_inside, two_parts, embedded_is, concatenation_is, union_is}
use Rattle.rl_names.proofs.events.+events.Goals as goal

pub operand-returns-in-Literal : goal.operand-returns-in-Literal
operand-returns-in-Literal t c = subst (λ z. OnOk c.push.result (map seen c.push.new.found.items ≡ map seen c.args.found.now.items ++ z)) (literal_leaf c.args.operand.now _ c.in-Literal.is) c.push.ensures

pub operand-returns-in-Number : goal.operand-returns-in-Number
operand-returns-in-Number t c = subst (λ z. OnOk c.push-in-Number.result (map seen c.push-in-Number.new.found.items ≡ map seen c.args.found.now.items ++ z)) (number_leaf c.args.operand.now _ c.in-Number.is) c.push-in-Number.ensures

pub operand-returns-in-Range : goal.operand-returns-in-Range
operand-returns-in-Range t c = subst (λ z. OnOk c.push-in-Range.result (map seen c.push-in-Range.new.found.items ≡ map seen c.args.found.now.items ++ z)) (range_leaf c.args.operand.now _ _ _ c.in-Range.is) c.push-in-Range.ensures

pub operand-returns-in-Set : goal.operand-returns-in-Set
operand-returns-in-Set t c = subst (λ z. OnOk c.push-in-Set.result (map seen c.push-in-Set.new.found.items ≡ map seen c.args.found.now.items ++ z)) (set_leaf c.args.operand.now _ c.in-Set.is) c.push-in-Set.ensures

pub operand-returns-in-RegularExpression : goal.operand-returns-in-RegularExpression
operand-returns-in-RegularExpression t c = subst (λ z. OnOk c.push-in-RegularExpression.result (map seen c.push-in-RegularExpression.new.found.items ≡ map seen c.args.found.now.items ++ z)) (regular_leaf c.args.operand.now _ c.in-RegularExpression.is) c.push-in-RegularExpression.ensures

pub operand-returns-in-Name : goal.operand-returns-in-Name
operand-returns-in-Name t c = subst (λ z. OnOk c.push-in-Name.result (map seen c.push-in-Name.new.found.items ≡ map seen c.args.found.now.items ++ z)) (name_leaf c.args.operand.now _ c.in-Name.is) c.push-in-Name.ensures

pub operand-returns-in-Group : goal.operand-returns-in-Group
operand-returns-in-Group t c = subst (λ z. OnOk c.union.result (map seen c.union.new.found.items ≡ map seen c.args.found.now.items ++ z)) (ap union_events c.get.ensures ∙ group_inside c.args.operand.now _ _ _ c.in-Group.is) c.union.ensures

pub operand-returns-in-Scanner : goal.operand-returns-in-Scanner
operand-returns-in-Scanner t c =
    sym (append-nil (map seen c.args.found.now.items)) ∙ ap (λ z. map seen c.args.found.now.items ++ z) (scanner_inside c.args.operand.now _ c.in-Scanner.is)

pub embedded-returns : goal.embedded-returns
embedded-returns t c =
    subst (λ z. OnOk c.embeddings.result (map seen c.embeddings.new.found.items ≡ z))
    (two_parts (map seen c.args.found.now.items) (map seen c.operand.new.found.items) _ (flat_map embedding_events c.as_slice.result.now) _ _ c.in_ok-operand.ensures (ap (flat_map embedding_events) c.as_slice.ensures) (embedded_is c.args.embedded.now)) c.embeddings.ensures

pub concatenation-returns : goal.concatenation-returns
concatenation-returns t c =
    subst (λ z. OnOk c.concatenation_parts.result (map seen c.concatenation_parts.new.found.items ≡ z))
    (two_parts (map seen c.args.found.now.items) (map seen c.embedded.new.found.items) _ (flat_map concatenation_part_uses c.as_slice.result.now) _ _ c.in_ok-embedded.ensures (ap (flat_map concatenation_part_uses) c.as_slice.ensures) (concatenation_is c.args.concatenation.now)) c.concatenation_parts.ensures

pub union-returns : goal.union-returns
union-returns t c =
    subst (λ z. OnOk c.union_parts.result (map seen c.union_parts.new.found.items ≡ z))
    (two_parts (map seen c.args.found.now.items) (map seen c.concatenation.new.found.items) _ (flat_map union_part_uses c.as_slice.result.now) _ _ c.in_ok-concatenation.ensures (ap (flat_map union_part_uses) c.as_slice.ensures) (union_is c.args.union.now)) c.union_parts.ensures
