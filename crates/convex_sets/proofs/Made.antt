-- What holds of a value that was made, from what else holds of it.
use Rattle.std.proofs.Common.{Result, Ok, Err, IfOk}

pub IfOk-map : {A E : Type 0} (r : Result A E) (P Q : A → Type 0) → IfOk r P → ((v : A) → P v → Q v) → IfOk r Q
IfOk-map (Ok v) P Q h f = f v h
IfOk-map (Err e) P Q h f = h
