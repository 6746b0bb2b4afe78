-- A walk along a chain of children meets each of them once, and ends.
use Rattle.grown_runs.proofs.Words.{◌≡◌, ◌≢◌, ◌==◌, ℕ, zero, suc, ◌+◌, ◌<◌, ◌≤◌, true, false, cond, eqb, List, [], ◌∷◌, length, refl, sym, ap, ◌∙◌, subst, inl}
use Rattle.grown_runs.proofs.Words.{inr, arith, ◌||◌, slice_index, AllByRecursion, IsDistinct, list_any, cases_eq, cases_lt, ne_eqb, sum_by-cons}
use Rattle.grown_runs.proofs.Words.{length-le_from_distinct_below, AreMembers, HasInChain, IndexesChains, IsIndex, firsts_of, front_in, nexts_of}
use Rattle.grown_runs.proofs.Words.{ChildIndex, previouses_of, siblings_from, times, walk_from}
use Rattle.std.proofs.lemmas.Bool.{eq-eqb}

-- ---- how often a number stands in a list

pub times-cons : (rest : List ℕ) (n m : ℕ) → times (n ∷ rest) m ≡ cond (n == m) 1 0 + times rest m
times-cons rest n m = sum_by-cons (λ k. cond (k == m) 1 0) n rest

pub times-here : (rest : List ℕ) (n m : ℕ) → n ≡ m → times (n ∷ rest) m ≡ 1 + times rest m
times-here rest n m same = times-cons rest n m ∙ ap (λ b. cond b 1 0 + times rest m) (eq-eqb n m same)

pub times-else : (rest : List ℕ) (n m : ℕ) → n ≢ m → times (n ∷ rest) m ≡ times rest m
times-else rest n m apart = times-cons rest n m ∙ (ap (λ b. cond b 1 0 + times rest m) (ne_eqb n m apart) ∙ omega arith)

-- what does not stand in a list differs from each of it
none-apart : (rest : List ℕ) (n : ℕ) → times rest n ≡ 0 → AllByRecursion (λ m. eqb n m ≡ false) rest
none-apart [] n none = tt
none-apart (m ∷ rest) n none =
    elim (cases_eq m n) [
      | inl same ↦ absurd (omega (arith, none, times-here rest m n same))
      | inr apart ↦ (ne_eqb n m (λ e. apart (sym e)), none-apart rest n (omega (arith, none, times-else rest m n apart)))
    ]

times-less : (rest : List ℕ) (m n : ℕ) → times rest n ≤ times (m ∷ rest) n
times-less rest m n =
    elim (cases_eq m n) [ inl same ↦ omega (arith, times-here rest m n same) | inr apart ↦ omega (arith, times-else rest m n apart) ]

once-distinct : (members : List ℕ) → ((n : ℕ) → times members n ≤ 1) → IsDistinct eqb members
unfolding IsDistinct
once-distinct [] once = tt
once-distinct (m ∷ rest) once = (
  none-apart rest m (omega (arith, once m, times-here rest m m refl)),
  once-distinct rest (λ n. omega (arith, once n, times-less rest m n)),
)

any-times : (members : List ℕ) (n : ℕ) → list_any (eqb n) members ≡ true → 0 < times members n
any-times [] n any = cc
any-times (m ∷ rest) n any =
    elim (cases_eq m n) [
      | inl same ↦ omega (arith, times-here rest m n same)
      | inr apart ↦ (
          let later : list_any (eqb n) rest ≡ true = sym (ap (λ b. b || list_any (eqb n) rest) (ne_eqb n m (λ e. apart (sym e)))) ∙ any in
          omega (arith, times-else rest m n apart, any-times rest n later))
    ]

-- ---- the whole walk

-- the walk from n by the list of the next ones has exactly these, and ends
abbrev pub Leads : List ℕ → ℕ → List ℕ → Type 0
Leads next n [] = n ≡ 0
Leads next n (m ∷ rest) = (n ≡ m) × (0 < m) × Leads next (slice_index next m) rest

-- exactly those of chain l up to a rank, each once
record AreUpTo (chain rank : ℕ → ℕ) (l top : ℕ) (members : List ℕ) : Type 0 where
  each : (m : ℕ) → chain m ≡ l → rank m ≤ top → times members m ≡ 1
  other : (m : ℕ) → chain m ≢ l → times members m ≡ 0
  above : (m : ℕ) → top < rank m → times members m ≡ 0

-- n comes before the rest, of which each has a lesser rank
AreUpTo-more :
    (nodes : ℕ) (chain : ℕ → ℕ) (first next previous : List ℕ) (n : ℕ) (rest : List ℕ) (index : IsIndex nodes chain first next previous) → 0 < chain n
    → ((m : ℕ) → chain m ≡ chain n → index.rank m < index.rank n → times rest m ≡ 1) → ((m : ℕ) → chain m ≢ chain n → times rest m ≡ 0)
    → ((m : ℕ) → index.rank n ≤ index.rank m → times rest m ≡ 0) → AreUpTo chain index.rank (chain n) (index.rank n) (n ∷ rest)
AreUpTo-more nodes chain first next previous n rest index some below other above = record {
  each = λ m here up_to.
      elim (cases_eq n m) [
        | inl same ↦ omega (arith, times-here rest n m same, above m (omega (arith, ap index.rank same)))
        | inr apart ↦ (
            let level : index.rank m ≢ index.rank n = λ e. apart (sym (index.chained.apart m n (omega (arith, here, some)) here e)) in
            times-else rest n m apart ∙ below m here (omega (arith, up_to, level)))
      ];
  other = λ m apart. times-else rest n m (λ same. apart (ap chain (sym same))) ∙ other m apart;
  above = λ m higher. times-else rest n m (λ same. (let level = ap index.rank same in absurd (omega (arith, level, higher)))) ∙ above m (omega (arith, higher));
}

-- what comes after n in its chain
record HasRest (nodes : ℕ) (chain : ℕ → ℕ) (first next previous : List ℕ) (n : ℕ) (index : IsIndex nodes chain first next previous) : Type 0 where
  rest : List ℕ
  leads : Leads next (slice_index next n) rest
  members : AreUpTo chain index.rank (chain n) (index.rank n) (n ∷ rest)

rest_of :
    (bound nodes : ℕ) (chain : ℕ → ℕ) (first next previous : List ℕ) (n : ℕ) (index : IsIndex nodes chain first next previous) → 0 < chain n
    → index.rank n < bound → HasRest nodes chain first next previous n index
rest_of zero nodes chain first next previous n index some low = absurd (omega (arith, low))
rest_of (suc bound) nodes chain first next previous n index some low =
    let r = index.chained in
    let after : ℕ = slice_index next n in
    let falls = r.falls n some in
    elim (cases_eq after 0) [
      | inl end ↦ record {
        rest = [];
        leads = end;
        members = AreUpTo-more nodes chain first next previous n [] index some
            (λ m here lower. (let further = (r.down m n some here lower).0 in absurd (omega (arith, end, further)))) (λ m apart. refl) (λ m higher. refl);
      }
      | inr further ↦ (
          let follows = r.after n some (omega (arith, further)) in
          let later = rest_of bound nodes chain first next previous after index (omega (arith, follows.0, some)) (omega (arith, falls, low)) in
          record {
            rest = after ∷ later.rest;
            leads = (refl, omega (arith, further), later.leads);
            members = AreUpTo-more nodes chain first next previous n (after ∷ later.rest) index some
                (λ m here lower. later.members.each m (here ∙ sym follows.0) (r.down m n some here lower).1)
                (λ m apart. later.members.other m (λ e. apart (e ∙ follows.0)))
                (λ m higher. later.members.above m (omega (arith, higher, falls)));
          })
    ]

-- there are no more of them than numbers
rest-short :
    (nodes : ℕ) (chain : ℕ → ℕ) (first next previous : List ℕ) (n : ℕ) (index : IsIndex nodes chain first next previous) → 0 < chain n
    → (has : HasRest nodes chain first next previous n index) → length (n ∷ has.rest) ≤ nodes
rest-short nodes chain first next previous n index some has =
    length-le_from_distinct_below (n ∷ has.rest) nodes (once-distinct (n ∷ has.rest) once) (λ m any. low m (any-times (n ∷ has.rest) m any))
  where
    once : (m : ℕ) → times (n ∷ has.rest) m ≤ 1
    once m =
        elim (cases_eq (chain m) (chain n)) [
          | inl here ↦ elim (cases_lt (index.rank n) (index.rank m)) [
            | inl higher ↦ omega (arith, has.members.above m higher)
            | inr up_to ↦ omega (arith, has.members.each m here up_to)
          ]
          | inr apart ↦ omega (arith, has.members.other m apart)
        ]

    low : (m : ℕ) → 0 < times (n ∷ has.rest) m → m < nodes
    low m there =
        elim (cases_eq (chain m) (chain n)) [
          | inl here ↦ index.within m (omega (arith, here, some))
          | inr apart ↦ absurd (omega (arith, there, has.members.other m apart))
        ]

walk_from-leads : (most : ℕ) (next : List ℕ) (n : ℕ) (members : List ℕ) → Leads next n members → length members ≤ most → walk_from most next n ≡ members
walk_from-leads most next n [] leads short = ap (walk_from most next) leads
walk_from-leads zero next n (m ∷ rest) leads short = absurd (omega (arith, short))
walk_from-leads (suc most) next n (zero ∷ rest) leads short = absurd (omega (arith, leads.1))
walk_from-leads (suc most) next n (suc m ∷ rest) leads short =
    ap (walk_from (suc most) next) leads.0
    ∙ ap (λ after. suc m ∷ after) (walk_from-leads most next (slice_index next (suc m)) rest leads.2 (omega (arith, short)))

-- ---- the siblings of an index

siblings_from-rest :
    (nodes : ℕ) (chain : ℕ → ℕ) (index : ChildIndex) (n : ℕ) (chains : IndexesChains nodes chain index) → 0 < chain n
    → (has : HasRest nodes chain (firsts_of index) (nexts_of index) (previouses_of index) n chains) → siblings_from index n ≡ n ∷ has.rest
siblings_from-rest nodes chain index n chains some has =
    walk_from-leads (length (nexts_of index)) (nexts_of index) n (n ∷ has.rest) (refl, child, has.leads) (omega (arith, chains.nexts, short))
  where
    short : length (n ∷ has.rest) ≤ nodes
    short = rest-short nodes chain (firsts_of index) (nexts_of index) (previouses_of index) n chains some has

    child : 0 < n
    child = elim (cases_eq n 0) [ inl e ↦ absurd (omega (arith, ap chain e, chains.chained.none, some)) | inr apart ↦ omega (arith, apart) ]

-- a number comes before its siblings after it
pub siblings_from-next :
    (index : ChildIndex) (n l : ℕ) → HasInChain index n l → 0 < l → siblings_from index n ≡ n ∷ siblings_from index (slice_index (nexts_of index) n)
siblings_from-next index n l has some =
    let next = nexts_of index in
    let in_chain : 0 < has.chain n = omega (arith, has.here, some) in
    let rest = rest_of (suc (has.chains.rank n)) has.nodes has.chain (firsts_of index) next (previouses_of index) n has.chains in_chain (omega arith) in
    let short = rest-short has.nodes has.chain (firsts_of index) next (previouses_of index) n has.chains in_chain rest in
    siblings_from-rest has.nodes has.chain index n has.chains in_chain rest
    ∙ ap (λ after. n ∷ after) (sym (walk_from-leads (length next) next (slice_index next n) rest.rest rest.leads (omega (arith, has.chains.nexts, short))))

-- from the first child of a number these are all its children
pub AreMembers-first :
    (nodes : ℕ) (chain : ℕ → ℕ) (index : ChildIndex) (parent : ℕ) → IndexesChains nodes chain index
    → AreMembers chain (suc parent) (siblings_from index (slice_index (firsts_of index) parent))
AreMembers-first nodes chain index parent chains =
    elim (cases_eq front 0) [ inl none ↦ subst (λ n. AreMembers chain (suc parent) (siblings_from index n)) (sym none) (childless none) | inr some ↦ all some ]
  where
    front : ℕ
    front = slice_index (firsts_of index) parent

    top : (m : ℕ) → chain m ≡ suc parent → (0 < front) × (chains.rank m ≤ chains.rank front)
    top m here =
        subst (λ l. (0 < front_in (firsts_of index) l) × (chains.rank m ≤ chains.rank (front_in (firsts_of index) l))) here
        (chains.chained.top m (omega (arith, here)))

    childless : front ≡ 0 → AreMembers chain (suc parent) []
    childless none = record { each = λ m here. absurd (omega (arith, none, (top m here).0)); only = λ m apart. refl }

    all : front ≢ 0 → AreMembers chain (suc parent) (siblings_from index front)
    all some =
        let head : chain front ≡ suc parent = (chains.chained.head (suc parent) (omega (arith, some))).1 in
        let in_chain : 0 < chain front = omega (arith, head) in
        let has =
        rest_of (suc (chains.rank front)) nodes chain (firsts_of index) (nexts_of index) (previouses_of index) front chains in_chain (omega arith) in
        subst (AreMembers chain (suc parent)) (sym (siblings_from-rest nodes chain index front chains in_chain has))
        (record {
          each = λ m here. has.members.each m (here ∙ sym head) (top m here).1;
          only = λ m apart. has.members.other m (λ e. apart (e ∙ head));
        })

-- a child stands before its siblings after it
pub siblings_from-here : (index : ChildIndex) (n : ℕ) → 0 < n → 0 < length (nexts_of index) → 0 < times (siblings_from index n) n
siblings_from-here index n some room = starts (length (nexts_of index)) n some room
  where
    starts : (most n : ℕ) → 0 < n → 0 < most → 0 < times (walk_from most (nexts_of index) n) n
    starts zero n some room = absurd (omega (arith, room))
    starts (suc most) zero some room = absurd (omega (arith, some))
    starts (suc most) (suc n) some room =
        omega (arith, times-here (walk_from most (nexts_of index) (slice_index (nexts_of index) (suc n))) (suc n) (suc n) refl)

-- who stands on the list is of the chain
pub AreMembers-chain : (chain : ℕ → ℕ) (l : ℕ) (members : List ℕ) (n : ℕ) → AreMembers chain l members → 0 < times members n → chain n ≡ l
AreMembers-chain chain l members n are there =
    elim (cases_eq (chain n) l) [ inl here ↦ here | inr apart ↦ absurd (omega (arith, there, are.only n apart)) ]
