-- The items of a batch are those of its sessions, from poll to poll.
use Rattle.any_time.proofs.Words.{◌≡◌, ◌≢◌, ◌<◌, ◌≤◌, ◌⊎◌, inl, inr, ℕ, Bool, true, false, List, [], ◌∷◌, ◌++◌, length, Option, Some, None, Result, Ok, Err}
use Rattle.any_time.proofs.Words.{nat_eq, if◌then◌else◌, ◌||◌, refl, sym, ap, subst, ◌∙◌, arith, IfSome, nat_tests, FoldsTo, dec_lt, Poll, Ready, Pending}
use Rattle.any_time.proofs.Words.{Memory, Better, ArePolled, BatchAnswers, BatchItemsFall, EndsWithSessions, FailsByMemory, ItemsAreOfSessions, betters_of}
use Rattle.any_time.proofs.Words.{has_memory, AllOver, BatchPolls, BatchState, Gave, Rests, at, first_turn, place_of, turn_after, Answers, EndsWith, HasGiven}
use Rattle.any_time.proofs.Words.{MissesNoFall, betters_among, IsOver, Polls, SessionState}
use Rattle.any_time.proofs.EachSlice.{items_fall_on}
use Rattle.any_time.proofs.TurnLoop.{place_once}

joined : (s u t : SessionState) (xs ys : Answers) → FoldsTo Polls s xs u → FoldsTo Polls u ys t → FoldsTo Polls s (xs ++ ys) t
joined s u t [] ys h k = subst (λ (v : SessionState). FoldsTo Polls v ys t) (sym h) k
joined s u t (x ∷ xs) ys h k = (h.0, h.1, joined h.0 u t xs ys h.2 k)

betters_joined : (xs ys : Answers) → betters_among (xs ++ ys) ≡ betters_among xs ++ betters_among ys
betters_joined [] ys = refl
betters_joined (Pending ∷ xs) ys = betters_joined xs ys
betters_joined (Ready None ∷ xs) ys = betters_joined xs ys
betters_joined (Ready (Some (Ok better)) ∷ xs) ys = ap (λ zs. better ∷ zs) (betters_joined xs ys)
betters_joined (Ready (Some (Err e)) ∷ xs) ys = betters_joined xs ys

then_polled : (s u t : SessionState) (xs ys : List Better) → ArePolled s xs u → ArePolled u ys t → ArePolled s (xs ++ ys) t
then_polled s u t xs ys h k =
    (h.0 ++ k.0, joined s u t h.0 k.0 h.1 k.1, betters_joined h.0 k.0 ∙ (ap (λ zs. zs ++ betters_among k.0) h.2 ∙ ap (λ zs. xs ++ zs) k.2))

once : (s t : SessionState) (answer : Poll (Option (Result Better Memory))) → Polls s answer t → ArePolled s (betters_among (answer ∷ [])) t
once s t answer h = (answer ∷ [], (t, h, refl), refl)

not_polled : (s t : SessionState) → t ≡ s → ArePolled s [] t
not_polled s t e = ([], sym e, refl)

rested : (s t : SessionState) → Rests s t → ArePolled s [] t
rested s t h = elim h [ inl pending ↦ once s t Pending pending | inr ended ↦ once s t (Ready None) ended ]

-- the session of a number when another, or the same, gave an answer
module _ (from : ℕ) (xs ys : List SessionState) (number : ℕ) (answer : Poll (Option (Result Better Memory))) (f : from ≤ length xs)
    (gave : Gave from xs ys number answer) (i : ℕ) (d : SessionState) (within : i < length xs) where
  apart : place_of (length xs) from i ≢ place_of (length xs) from number → i ≢ number
  apart other e = other (ap (place_of (length xs) from) e)

  of_gave : ((i ≡ number) × ArePolled (at xs i d) (betters_among (answer ∷ [])) (at ys i d)) ⊎ ((i ≢ number) × ArePolled (at xs i d) [] (at ys i d))
  of_gave =
      let n = length xs in
      elim (dec_lt (place_of n from i) (place_of n from number)) [
        | yes before ↦ inr (apart (omega (arith, before)), rested _ _ (gave.rested i d within before))
        | no not_before ↦ elim (dec_lt (place_of n from number) (place_of n from i)) [
          | yes after ↦ inr (apart (omega (arith, after)), not_polled _ _ (gave.same i d within after))
          | no not_after ↦
              let same : i ≡ number = place_once n from i number f within gave.within (omega arith) in
              let P : ℕ → Type 0 = λ m. ArePolled (at xs m d) (betters_among (answer ∷ [])) (at ys m d) in
              inl (same, subst P (sym same) (once _ _ answer (gave.polled d)))
        ]
      ]

turn_within : (count : ℕ) (last : Option ℕ) → turn_after count last ≤ count
turn_within count None = omega arith
turn_within count (Some number) = grind (arith, nat_tests)

step : (b u : BatchState) (answer : Poll (Option (Result (ℕ × Better) Memory))) → BatchPolls b answer u → (i : ℕ) (d : SessionState)
    → i < length b.sessions → (length u.sessions ≡ length b.sessions) × ArePolled (at b.sessions i d) (betters_of i (answer ∷ [])) (at u.sessions i d)
step b u Pending h i d w = (h.3.count, rested _ _ (h.3.rested i d w))
step b u (Ready None) h i d w =
    (ap (λ (c : BatchState). length c.sessions) h.1, not_polled _ _ (ap (λ (c : BatchState). at c.sessions i d) h.1))
step b u (Ready (Some (Ok item))) h i d w =
    let P : Bool → Type 0 = λ v. ArePolled (at b.sessions i d) (if v then item.1 ∷ [] else []) (at u.sessions i d) in (
      h.3.count,
      elim (of_gave (first_turn b) b.sessions u.sessions item.0 _ (turn_within _ b.last) h.3 i d w) [
        | inl it ↦ let e : nat_eq item.0 i ≡ true = (let k = it.0 in grind (arith, nat_tests)) in subst P (sym e) it.1
        | inr other ↦ let e : nat_eq item.0 i ≡ false = (let k = other.0 in grind (arith, nat_tests)) in subst P (sym e) other.1
      ],
    )
step b u (Ready (Some (Err e))) h i d w = (
  h.3.1.count,
  elim (of_gave (first_turn b) b.sessions u.sessions h.3.0 _ (turn_within _ b.last) h.3.1 i d w) [ inl it ↦ it.1 | inr other ↦ other.1 ],
)

picked : (v : Bool) (x : Better) (xs : List Better) → (if v then x ∷ xs else xs) ≡ (if v then x ∷ [] else []) ++ xs
picked true x xs = refl
picked false x xs = refl

one_more : (i : ℕ) (answer : Poll (Option (Result (ℕ × Better) Memory))) (answers : BatchAnswers)
    → betters_of i (answer ∷ answers) ≡ betters_of i (answer ∷ []) ++ betters_of i answers
one_more i Pending answers = refl
one_more i (Ready None) answers = refl
one_more i (Ready (Some (Ok item))) answers = picked (nat_eq item.0 i) item.1 (betters_of i answers)
one_more i (Ready (Some (Err e))) answers = refl

of_sessions : (b c : BatchState) (answers : BatchAnswers) → FoldsTo BatchPolls b answers c → (i : ℕ) (d : SessionState) → i < length b.sessions
    → ArePolled (at b.sessions i d) (betters_of i answers) (at c.sessions i d)
of_sessions b c [] h i d w = not_polled _ _ (ap (λ (e : BatchState). at e.sessions i d) (sym h))
of_sessions b c (answer ∷ answers) h i d w =
    let first = step b h.0 answer h.1 i d w in
    let rest = of_sessions h.0 c answers h.2 i d (omega (arith, first.0, w)) in
    let all = then_polled _ _ _ _ _ first.1 rest in
    subst (λ (zs : List Better). ArePolled (at b.sessions i d) zs (at c.sessions i d)) (sym (one_more i answer answers)) all

same_count : (b u : BatchState) (answer : Poll (Option (Result (ℕ × Better) Memory))) → BatchPolls b answer u → length u.sessions ≡ length b.sessions
same_count b u Pending h = h.3.count
same_count b u (Ready None) h = ap (λ (c : BatchState). length c.sessions) h.1
same_count b u (Ready (Some (Ok item))) h = h.3.count
same_count b u (Ready (Some (Err e))) h = h.3.1.count

all_stay : (b c : BatchState) (answers : BatchAnswers) → FoldsTo BatchPolls b answers c → length c.sessions ≡ length b.sessions
all_stay b c [] h = ap (λ (e : BatchState). length e.sessions) (sym h)
all_stay b c (answer ∷ answers) h = all_stay h.0 c answers h.2 ∙ same_count b h.0 answer h.1

pub items_of_sessions : ItemsAreOfSessions
items_of_sessions b c answers h = (all_stay b c answers h, of_sessions b c answers h)

-- ---- what follows

or_false : (a : Bool) → a ≡ (a || false)
or_false true = refl
or_false false = refl

-- the law of sessions, of the items of a number
pub batch_items_fall : BatchItemsFall
batch_items_fall b c answers number d task workers slice h w fresh =
    let polled = of_sessions b c answers h number d w in
    let t : SessionState = at c.sessions number d in
    subst (λ (items : List Better). HasGiven task workers slice items t.run
    × (IsOver t → IfSome t.run (λ run. EndsWith task workers run × MissesNoFall task workers slice items run))) polled.2
    (items_fall_on task workers slice (at b.sessions number d) t polled.0 fresh polled.1)

failed_once : (b u : BatchState) (answer : Poll (Option (Result (ℕ × Better) Memory))) → BatchPolls b answer u
    → u.failed ≡ (b.failed || has_memory (answer ∷ []))
failed_once b u Pending h = rw (h.0, h.1) refl
failed_once b u (Ready None) h = rw (h.1) (or_false b.failed)
failed_once b u (Ready (Some (Ok item))) h = rw (h.0, h.1) refl
failed_once b u (Ready (Some (Err e))) h = rw (h.0, h.1) refl

one_more_failed : (failed : Bool) (answer : Poll (Option (Result (ℕ × Better) Memory))) (answers : BatchAnswers)
    → ((failed || has_memory (answer ∷ [])) || has_memory answers) ≡ (failed || has_memory (answer ∷ answers))
one_more_failed true answer answers = refl
one_more_failed false Pending answers = refl
one_more_failed false (Ready None) answers = refl
one_more_failed false (Ready (Some (Ok item))) answers = refl
one_more_failed false (Ready (Some (Err e))) answers = refl

pub fails_by_memory : FailsByMemory
fails_by_memory b c [] h = ap (λ (e : BatchState). e.failed) (sym h) ∙ or_false b.failed
fails_by_memory b c (answer ∷ answers) h =
    fails_by_memory h.0 c answers h.2 ∙ (ap (λ (failed : Bool). failed || has_memory answers) (failed_once b h.0 answer h.1)
    ∙ one_more_failed b.failed answer answers)

all_over : (b c : BatchState) → c ≡ b → b.failed ≡ false → (b.failed ≡ true) ⊎ AllOver b.sessions → AllOver c.sessions
all_over b c same fine (inl failed) = absurd (cc)
all_over b c same fine (inr over) = subst (λ (e : BatchState). AllOver e.sessions) (sym same) over

pub ends_with_sessions : EndsWithSessions
ends_with_sessions b c h fine = all_over b c h.1 fine h.0
