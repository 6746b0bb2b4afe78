-- The version that statements give is one of the format, and one that is read.
use Rattle.plan_model.proofs.Words.{◌≡◌, ℕ, ◌≤◌, Bool, true, false, cond, Option, Some, None, List, [], ◌∷◌, refl, subst, arith, bytes_eq, format_name}
use Rattle.plan_model.proofs.Words.{version_word, every_version, version_among, Given, fault_at_end, version_of, version_within, version_given, cond_both}

-- a version of the format that is read
pub record IsReadVersion (reads : ℕ → Bool) (version : ℕ) : Type 0 where
  pub low : 1 ≤ version
  pub high : version ≤ 2
  pub read : reads version ≡ true

-- a version of the format
record IsVersion (version : ℕ) : Type 0 where
  low : 1 ≤ version
  high : version ≤ 2

among_by : (first second : Bool) (version : ℕ) → cond first (Some 1) (cond second (Some 2) None) ≡ Some version → IsVersion version
among_by true second version e =
    let same : 1 ≡ version = cc in
    record { low = omega arith; high = omega arith }
among_by false true version e =
    let same : 2 ≡ version = cc in
    record { low = omega arith; high = omega arith }
among_by false false version e = absurd (cc)

IsVersion-among : (word : List ℕ) (version : ℕ) → version_among word every_version ≡ Some version → IsVersion version
IsVersion-among word version e = among_by (bytes_eq word (version_word 1)) (bytes_eq word (version_word 2)) version e

read_by : (b : Bool) (reads : ℕ → Bool) (found version : ℕ) → reads found ≡ b → cond b (Some found) None ≡ Some version → IsVersion found
    → IsReadVersion reads version
read_by true reads found version e f h =
    let same : found ≡ version = cc in
    subst (IsReadVersion reads) same (record { low = h.low; high = h.high; read = e })
read_by false reads found version e f h = absurd (cc)

IsReadVersion-within : (reads : ℕ → Bool) (word : List ℕ) (found : Option ℕ) (version : ℕ) → version_among word every_version ≡ found
    → version_within reads found ≡ Some version → IsReadVersion reads version
IsReadVersion-within reads word None version e f = absurd (cc)
IsReadVersion-within reads word (Some found) version e f = read_by (reads found) reads found version refl f (IsVersion-among word found e)

pub IsReadVersion-of : (reads : ℕ → Bool) (words : List (List ℕ)) (version : ℕ) → version_of reads words ≡ Some version → IsReadVersion reads version
IsReadVersion-of reads [] version e = absurd (cc)
IsReadVersion-of reads (first ∷ []) version e = absurd (cc)
IsReadVersion-of reads (first ∷ second ∷ []) version e =
    let among = version_among second every_version in
    cond_both (bytes_eq first format_name) (version_within reads among) None (λ o. o ≡ Some version → IsReadVersion reads version)
    (λ named. IsReadVersion-within reads second among version refl) (λ other f. absurd (cc)) e
IsReadVersion-of reads (first ∷ second ∷ third ∷ words) version e = absurd (cc)

pub IsReadVersion-given : (reads : ℕ → Bool) (statements : List (List (List ℕ))) (version : ℕ) → version_given reads statements ≡ Some version
    → IsReadVersion reads version
IsReadVersion-given reads [] version e = absurd (cc)
IsReadVersion-given reads (first ∷ statements) version e = IsReadVersion-of reads first version e

-- if nothing is missing, there is a version
pub version-end : (read : Option ℕ) (given : Given) → fault_at_end read given ≡ None → (version : ℕ) × (read ≡ Some version)
version-end None given e = absurd (cc)
version-end (Some version) given e = (version, refl)
