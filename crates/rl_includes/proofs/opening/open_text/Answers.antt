use Rattle.std.proofs.Common.{◌≡◌, rules}
use Rattle.rl_includes.specs.Names.{file_number}
use Rattle.rl_includes.proofs.OpenLaws.{text_opens, text_refused}
use Rattle.rl_includes.proofs.opening.open_text.Goals as goal

pub returns-in-Ok : goal.returns-in-Ok
returns-in-Ok c =
    let number : c.file_number-number.result ≡ file_number c.args.unrolled.now.files c.args.request.now.file = search rules in
    text_opens c.args.reader.now c.args.request.now c.args.text.now c.args.unrolled.now c.open_trees.new.unrolled c.add_file.new.files c.file_number-number.result c.in-Ok.trees c.open_trees.result number
    c.in_ok-add_file.ensures c.in-Ok.ensures.read c.open_trees.ensures

pub returns-in-Err : goal.returns-in-Err
returns-in-Err c =
    let number : c.file_number-number.result ≡ file_number c.args.unrolled.now.files c.args.request.now.file = search rules in
    text_refused c.args.reader.now c.args.request.now c.args.text.now c.args.unrolled.now c.refuse.new.unrolled c.add_file.new.files c.file_number-number.result c.in-Err.fault c.in_ok-file.file c.refuse.result
    c.in_ok-file.ensures number c.in_ok-add_file.ensures c.in-Err.ensures.refused c.refuse.ensures
