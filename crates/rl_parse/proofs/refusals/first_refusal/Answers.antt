use Rattle.std.proofs.Common.{◌≡◌, ◌+◌, ◌<◌, ◌≤◌, length, take, get_or, None, sym, ap, ◌∙◌, arith}
use Rattle.rl_grammar.specs.Refusals.{opened, opened_by, last_scanner, scanner_by, refusal_at}
use Rattle.rl_parse.proofs.Refused.{opened_more, scanner_more, none_more, by_one_more}
use Rattle.rl_parse.proofs.refusals.first_refusal.Goals as goal

pub loop-at-preserved : goal.loop-at-preserved
loop-at-preserved c =
    let ts = c.args.tokens.now in
    let at = c.loop-at.at in
    let t = c.index-tokens-at.result in
    let below : at < length ts = omega arith in
    let here : refusal_at ts at ≡ None = sym c.refusal_at.ensures ∙ c.in_default.is in
    let counted : c.opened_by-depth.result ≡ opened 0 (take (at + 1) ts) =
    c.opened_by-depth.ensures ∙ (ap (λ n. opened_by n (get_or ts at t).kind) c.loop-at.invariant.0 ∙ sym (opened_more 0 ts at t below)) in
    let most : opened_by c.loop-at.depth (get_or ts at t).kind ≤ c.loop-at.depth + 1 = by_one_more c.loop-at.depth (get_or ts at t).kind in
    let bound : c.opened_by-depth.result ≤ at + 1 = omega (arith, c.opened_by-depth.ensures, most, c.loop-at.invariant.1) in
    let u = c.index-tokens-at-in-loop-at.result in
    let is = c.index-tokens-at-in-loop-at.is in
    let more = scanner_more None ts at u below in
    let found : c.scanner_by-scanner.result ≡ last_scanner None (take (at + 1) ts) =
    c.scanner_by-scanner.ensures ∙ (ap (λ n. scanner_by n u) c.loop-at.invariant.2 ∙ (ap (λ z. scanner_by (last_scanner None (take at ts)) z) is ∙ sym more)) in
    (counted, bound, found, none_more ts at c.loop-at.invariant.3 here)
