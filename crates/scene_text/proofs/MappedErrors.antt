-- What `map_err` says of the error that it gives.
use Rattle.std.proofs.Common.{◌≡◌, Result, Ok, Err, IfOk, IfErr, OnOk, sym, subst}
use Rattle.std.specs.Result.{MatchResult, IsErrAnd, is_ok}

err-mapped : {T D : Type 0} (new : Result T D) (Post P : D → Type 0) → ((d : D) → Post d → P d) → IsErrAnd new Post → IfErr new P
err-mapped (Ok x) Post P f h = absurd h
err-mapped (Err d) Post P f h = f d h

-- what holds of the first error gives what holds of the second
pub IfErr-map_err : {T E D : Type 0} (old : Result T E) (new : Result T D) (Post : E → D → Type 0) (Q : E → Type 0) (P : D → Type 0)
    → MatchResult old (λ x. new ≡ Ok x) (λ e. IsErrAnd new (Post e)) → ((e : E) (d : D) → Q e → Post e d → P d) → IfErr old Q → IfErr new P
IfErr-map_err (Ok x) new Post Q P cases f q = subst (λ r. IfErr r P) (sym cases) tt
IfErr-map_err (Err e) new Post Q P cases f q = err-mapped new (Post e) P (λ d h. f e d q h) cases

-- a value is kept
pub IfOk-map_err : {T E D : Type 0} (old : Result T E) (new : Result T D) (Post : E → D → Type 0) (P : T → Type 0)
    → MatchResult old (λ x. new ≡ Ok x) (λ e. IsErrAnd new (Post e)) → IfOk old P → IfOk new P
IfOk-map_err (Ok x) new Post P cases p = subst (λ r. IfOk r P) (sym cases) p
IfOk-map_err (Err e) (Ok x) Post P cases p = absurd cases
IfOk-map_err (Err e) (Err d) Post P cases p = tt

-- two facts that hold of a value and on success
pub IfOk-two : {T E R : Type 0} {P S : T → Type 0} (result : Result T E) → ((x : T) → R → P x → S x) → IfOk result (λ x. R) → IfOk result P → IfOk result S
IfOk-two (Ok x) f r p = f x r p
IfOk-two (Err e) f r p = tt

-- success after `map_err` is success before it
pub OnOk-before_map_err : {T E D P : Type 0} (old : Result T E) (new : Result T D) (x : T) → new ≡ Ok x → is_ok new ≡ is_ok old → OnOk old P → P
OnOk-before_map_err (Ok y) new x ok same p = p
OnOk-before_map_err (Err e) (Ok y) x ok same p = absurd (cc)
OnOk-before_map_err (Err e) (Err d) x ok same p = absurd (cc)
