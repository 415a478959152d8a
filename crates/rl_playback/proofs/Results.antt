-- Facts of a call's result, on to other facts.
use Rattle.std.proofs.Common.{Result, Ok, Err, OnOk, IfOk}

pub on_ok : {A E : Type 0} (r : Result A E) {P Q : Type 0} → (P → Q) → OnOk r P → OnOk r Q
on_ok (Ok x) f p = f p
on_ok (Err e) f p = p

pub if_ok : {A E : Type 0} (r : Result A E) {P Q : A → Type 0} → ((x : A) → P x → Q x) → IfOk r P → IfOk r Q
if_ok (Ok x) f p = f x p
if_ok (Err e) f p = p

pub if_to_on : {A E : Type 0} (r : Result A E) {P : A → Type 0} {Q : Type 0} → ((x : A) → P x → Q) → IfOk r P → OnOk r Q
if_to_on (Ok x) f p = f x p
if_to_on (Err e) f p = p
