-- The left line of a session, by what is told of it.
use Rattle.std.proofs.Common.{◌≡◌, ℕ, zero, suc, ◌+◌, ◌<◌, true, false, cond, List, [], ◌∷◌, ◌++◌, length, take, Option, Some, None, refl, sym, ◌∙◌, ap, append_assoc, append-nil, arith}
use Rattle.std.specs.Prelude.{slice_get}
use Rattle.rl_arrays.specs.declared.arrays.Arrays.{Arrays}
use Rattle.rl_replay.specs.Lines.{left_line}
use Rattle.rl_sessions.specs.SessionsValue.{SessionValue, verdict_in}
use Rattle.rl_sessions.specs.Views.{IsViewOf}
use Rattle.rl_sessions.specs.declared.one.SessionView.{SessionView}
use Rattle.rl_playback.specs.Deeds.{left_text, left_at, left_texts}

module _ (a : Arrays) where
  pub left_some : (o : Option SessionValue) (v : SessionView) → IsViewOf a o (Some v) → v.is_closed ≡ false → left_line v.name.now v.verdict v.next ≡ left_at a o
  left_some None v h e = absurd h
  left_some (Some x) v h e =
      ap (λ s. left_line s v.verdict v.next) h.name ∙ ap (λ w. left_line x.name w v.next) h.verdict ∙ ap (λ n. left_line x.name (verdict_in a x) n) h.next
      ∙ sym (ap (λ b. cond b [] (left_line x.name (verdict_in a x) x.session.next)) (sym h.is_closed ∙ e))

  pub left_closed : (o : Option SessionValue) (v : SessionView) → IsViewOf a o (Some v) → v.is_closed ≡ true → left_at a o ≡ []
  left_closed None v h e = absurd h
  left_closed (Some x) v h e = ap (λ b. cond b [] (left_line x.name (verdict_in a x) x.session.next)) (sym h.is_closed ∙ e)

  pub left_none : (o : Option SessionValue) → IsViewOf a o None → left_at a o ≡ []
  left_none None h = refl
  left_none (Some x) h = absurd h

  pub left_next : (all : List SessionValue) (place : ℕ) → place < length all → left_texts a (take (place + 1) all) ≡ left_texts a (take place all) ++ left_at a (slice_get all place)
  left_next [] place less = absurd (omega arith)
  left_next (x ∷ all) zero less = append-nil (left_text a x)
  left_next (x ∷ all) (suc place) less =
      let one : suc place + 1 ≡ suc (place + 1) = omega arith in
      ap (λ n. left_texts a (take n (x ∷ all))) one
      ∙ ap (λ t. left_text a x ++ t) (left_next all place (omega arith))
      ∙ sym (append_assoc (left_text a x) (left_texts a (take place all)) (left_at a (slice_get all place)))

-- a text that grows by nothing
pub by_nothing : (text more : List ℕ) → more ≡ [] → text ≡ text ++ more
by_nothing text more e = sym (append-nil text) ∙ ap (λ t. text ++ t) (sym e)
