-- The statements of a scene's canonical text, by keys: a statement for each list of numbers that the scene has for the key. None has a fault.
use Rattle.scene_text.proofs.Words.{◌≡◌, ℕ, ◌+◌, ◌≤◌, ◌&&◌, ◌||◌, not, Bool, true, false, cond, eqb, leb, zero, suc, ℤ, pos, Option, Some, None, List, [], ◌∷◌}
use Rattle.scene_text.proofs.Words.{◌++◌, length, map, refl, sym, ap, ap₂, ◌∙◌, arith, list_all, nat_tests, and_parts, leb-true, append-nil, append_assoc}
use Rattle.scene_text.proofs.Words.{length-map, Scene, Marks, Drawn, Listed, Key, MOST_MARKS, MOST_OBSTACLES, is_goal, is_mark, is_obstacle, is_plan}
use Rattle.scene_text.proofs.Words.{most_goals, name_of, every_key, is_key, most_lines, rival_of, version_word, Format, Given, MayStand, begins_with, given_by}
use Rattle.scene_text.proofs.Words.{is_inhabited, stands_any, version_of, is_repeated, fault_of_version, fault_of_statement, value_of, signed_decimal}
use Rattle.scene_text.proofs.Words.{point_numbers, goal_numbers, corner_numbers, statement, version_statement, goal_statement, clearance_statements}
use Rattle.scene_text.proofs.Words.{informed_statements, plan_statements, search_statements, canonical_statements, has_key, Covers, given_by-append}
use Rattle.std.proofs.lemmas.List.{length-append}
use Rattle.plan_model.specs.declared.text_terms.Key.TheVariants as keys
use Rattle.scene_text.proofs.StatementTexts.{is_word, is_clean, AreSound, AreSoundAfter, AreSound-after}
use Rattle.scene_text.proofs.CanonicalWords.{is_clean-statement, fault-none, short-ranged, values-decimal}
use Rattle.scene_text.proofs.CanonicalNumbers.{fit-room, fit-body, fit-obstacle, fit-clearance, fit-start, fit-goal, fit-step, fit-gamma, fit-seed, fit-strips}
use Rattle.scene_text.proofs.CanonicalNumbers.{fit-informed, fit-marks, fit-mark}

-- ---- members

abbrev pub AreAll : {A : Type 0} → (A → Type 0) → List A → Type 0
AreAll P [] = Unit {0}
AreAll P (x ∷ xs) = P x × AreAll P xs

AreAll-append : {A : Type 0} (P : A → Type 0) (xs ys : List A) → AreAll P xs → AreAll P ys → AreAll P (xs ++ ys)
AreAll-append P [] ys h k = k
AreAll-append P (x ∷ xs) ys h k = (h.0, AreAll-append P xs ys h.1 k)

AreAll-tested : {A B : Type 0} (P : B → Type 0) (f : A → B) (test : A → Bool) → ((x : A) → test x ≡ true → P (f x)) → (xs : List A)
    → list_all test xs ≡ true → AreAll P (map f xs)
AreAll-tested P f test each [] h = tt
AreAll-tested P f test each (x ∷ xs) h =
    let parts = and_parts (test x) (list_all test xs) h in
    (each x parts.0, AreAll-tested P f test each xs parts.1)

-- ---- the numbers of a scene

abbrev pub drawn_of : Marks → List (List ℤ)
drawn_of (Drawn n) = (pos n ∷ []) ∷ []
drawn_of (Listed points) = []

abbrev pub listed_of : Marks → List (List ℤ)
listed_of (Drawn n) = []
listed_of (Listed points) = map point_numbers points

-- the numbers of each statement with the key
abbrev pub table_of : Scene → Given
table_of scene keys.Room = point_numbers scene.room ∷ []
table_of scene keys.Body = corner_numbers scene.body ∷ []
table_of scene keys.Obstacle = map corner_numbers scene.obstacles
table_of scene keys.Clearance = cond (eqb scene.version 1) [] ((pos scene.clearance ∷ []) ∷ [])
table_of scene keys.Start = point_numbers scene.start ∷ []
table_of scene keys.Goal = map goal_numbers scene.goals
table_of scene keys.Step = (pos scene.step ∷ []) ∷ []
table_of scene keys.Gamma = (pos scene.gamma ∷ []) ∷ []
table_of scene keys.Seed = (pos scene.seed ∷ []) ∷ []
table_of scene keys.Strips = (pos scene.strips ∷ []) ∷ []
table_of scene keys.Informed = cond scene.informed ((pos 1 ∷ []) ∷ []) []
table_of scene keys.Marks = drawn_of scene.plan
table_of scene keys.Mark = listed_of scene.plan

obstacles-within : (scene : Scene) → (length scene.obstacles ≤ MOST_OBSTACLES) × (list_all (is_obstacle scene.version) scene.obstacles ≡ true)
obstacles-within scene =
    let parts = and_parts (leb (length scene.obstacles) MOST_OBSTACLES) (list_all (is_obstacle scene.version) scene.obstacles) scene.obstacles_within in
    (leb-true (length scene.obstacles) MOST_OBSTACLES parts.0, parts.1)

goals-within : (scene : Scene) → (length scene.goals ≤ most_goals scene.version) × (list_all (is_goal scene.version) scene.goals ≡ true)
goals-within scene =
    let parts = and_parts (leb 1 (length scene.goals) && leb (length scene.goals) (most_goals scene.version)) (list_all (is_goal scene.version) scene.goals)
    scene.goals_within in
    let few = (and_parts (leb 1 (length scene.goals)) (leb (length scene.goals) (most_goals scene.version)) parts.0).1 in
    (leb-true (length scene.goals) (most_goals scene.version) few, parts.1)

informed-fit : (version : ℕ) (informed : Bool) → (not informed || not (eqb version 1)) ≡ true
    → AreAll (MayStand version keys.Informed) (cond informed ((pos 1 ∷ []) ∷ []) [])
informed-fit version true h = (fit-informed version h, tt)
informed-fit version false h = tt

drawn-fit : (version : ℕ) (plan : Marks) → is_plan version plan ≡ true → AreAll (MayStand version keys.Marks) (drawn_of plan)
drawn-fit version (Drawn n) h = (fit-marks version n h, tt)
drawn-fit version (Listed points) h = tt

listed-fit : (version : ℕ) (plan : Marks) → is_plan version plan ≡ true → AreAll (MayStand version keys.Mark) (listed_of plan)
listed-fit version (Drawn n) h = tt
listed-fit version (Listed points) h =
    AreAll-tested (MayStand version keys.Mark) point_numbers (is_mark version) (fit-mark version) points
    (and_parts (leb (length points) MOST_MARKS) (list_all (is_mark version) points) h).1

-- the numbers may stand after the key
pub table-fit : (scene : Scene) (key : Key) → AreAll (MayStand scene.version key) (table_of scene key)
table-fit scene keys.Room = (fit-room scene.version scene.room scene.room_within, tt)
table-fit scene keys.Body = (fit-body scene.version scene.body scene.body_within, tt)
table-fit scene keys.Obstacle =
    AreAll-tested (MayStand scene.version keys.Obstacle) corner_numbers (is_obstacle scene.version) (fit-obstacle scene.version) scene.obstacles
    (obstacles-within scene).1
table-fit scene keys.Clearance =
    elim (eqb scene.version 1) as (λ first. AreAll (MayStand scene.version keys.Clearance) (cond first [] ((pos scene.clearance ∷ []) ∷ [])))
    [ true ↦ tt | false ↦ (fit-clearance scene.version scene.clearance scene.clearance_high, tt) ]
table-fit scene keys.Start = (fit-start scene.version scene.start scene.start_within, tt)
table-fit scene keys.Goal =
    AreAll-tested (MayStand scene.version keys.Goal) goal_numbers (is_goal scene.version) (fit-goal scene.version) scene.goals (goals-within scene).1
table-fit scene keys.Step = (fit-step scene.version scene.step scene.step_low scene.step_high, tt)
table-fit scene keys.Gamma = (fit-gamma scene.version scene.gamma scene.gamma_high, tt)
table-fit scene keys.Seed = (fit-seed scene.version scene.seed scene.seed_high, tt)
table-fit scene keys.Strips = (fit-strips scene.version scene.strips scene.strips_low scene.strips_high, tt)
table-fit scene keys.Informed = informed-fit scene.version scene.informed scene.informed_within
table-fit scene keys.Marks = drawn-fit scene.version scene.plan scene.plan_within
table-fit scene keys.Mark = listed-fit scene.version scene.plan scene.plan_within

drawn-few : (plan : Marks) → length (drawn_of plan) ≤ 1
drawn-few (Drawn n) = omega arith
drawn-few (Listed points) = omega arith

listed-few : (version : ℕ) (plan : Marks) → is_plan version plan ≡ true → length (listed_of plan) ≤ MOST_MARKS
listed-few version (Drawn n) h = omega arith
listed-few version (Listed points) h =
    let few = leb-true (length points) MOST_MARKS (and_parts (leb (length points) MOST_MARKS) (list_all (is_mark version) points) h).0 in
    omega (arith, few, length-map points point_numbers)

-- no key stands too often
pub table-few : (scene : Scene) (key : Key) → length (table_of scene key) ≤ most_lines scene.version key
table-few scene keys.Obstacle = omega (arith, (obstacles-within scene).0, length-map scene.obstacles corner_numbers)
table-few scene keys.Goal = omega (arith, (goals-within scene).0, length-map scene.goals goal_numbers)
table-few scene keys.Clearance =
    elim (eqb scene.version 1) as (λ first. length (cond first [] ((pos scene.clearance ∷ []) ∷ [])) ≤ 1) [ true ↦ omega arith | false ↦ omega arith ]
table-few scene keys.Informed =
    elim scene.informed as (λ informed. length (cond informed ((pos 1 ∷ []) ∷ []) []) ≤ 1) [ true ↦ omega arith | false ↦ omega arith ]
table-few scene keys.Marks = drawn-few scene.plan
table-few scene keys.Mark = listed-few scene.version scene.plan scene.plan_within
table-few scene key = omega arith

second-clear : (first : Bool) (zs : List ℤ) → is_inhabited (cond first [] (zs ∷ [])) ≡ true → not first ≡ true
second-clear true zs some = absurd (cc)
second-clear false zs some = refl

second-informed : (informed first : Bool) (zs : List ℤ) → (not informed || not first) ≡ true → is_inhabited (cond informed (zs ∷ []) []) ≡ true
    → (informed ≡ true) × (not first ≡ true)
second-informed true first zs h some = (refl, h)
second-informed false first zs h some = absurd (cc)

-- a key of which there are numbers is one of the version
table-known : (scene : Scene) (key : Key) → is_inhabited (table_of scene key) ≡ true → (has_key scene key ≡ true) × (is_key scene.version key ≡ true)
table-known scene keys.Clearance some =
    let second = second-clear (eqb scene.version 1) (pos scene.clearance ∷ []) some in
    (second, second)
table-known scene keys.Informed some = second-informed scene.informed (eqb scene.version 1) (pos 1 ∷ []) scene.informed_within some
table-known scene key some = (refl, refl)

drawn-alone : (plan : Marks) → is_inhabited (drawn_of plan) ≡ true → is_inhabited (listed_of plan) ≡ false
drawn-alone (Drawn n) some = refl
drawn-alone (Listed points) some = absurd (cc)

listed-alone : (plan : Marks) → is_inhabited (listed_of plan) ≡ true → is_inhabited (drawn_of plan) ≡ false
listed-alone (Drawn n) some = absurd (cc)
listed-alone (Listed points) some = refl

table-alone : (scene : Scene) (key : Key) → is_inhabited (table_of scene key) ≡ true → stands_any (table_of scene) (rival_of key) ≡ false
table-alone scene keys.Marks some = drawn-alone scene.plan some
table-alone scene keys.Mark some = listed-alone scene.plan some
table-alone scene key some = refl

-- ---- the statements of a scene

-- a statement for each list of numbers of these keys
abbrev pub lines_for : Given → List Key → List (List (List ℕ))
lines_for given [] = []
lines_for given (key ∷ others) = map (statement key) (given key) ++ lines_for given others

abbrev pub lines_of_scene : Scene → List (List (List ℕ))
lines_of_scene scene = lines_for (table_of scene) every_key

mapped : {A : Type 0} (key : Key) (numbers : A → List ℤ) (xs : List A) → map (statement key) (map numbers xs) ≡ map (λ x. statement key (numbers x)) xs
mapped key numbers [] = refl
mapped key numbers (x ∷ xs) = rw (mapped key numbers xs) refl

plan-lines : (plan : Marks) → map (statement keys.Marks) (drawn_of plan) ++ (map (statement keys.Mark) (listed_of plan) ++ []) ≡ plan_statements plan
plan-lines (Drawn n) = refl
plan-lines (Listed points) = append-nil (map (statement keys.Mark) (map point_numbers points)) ∙ mapped keys.Mark point_numbers points

-- they are those of the canonical text, after the version
pub canonical-lines : (scene : Scene) → version_statement scene.version ∷ lines_of_scene scene ≡ canonical_statements scene
canonical-lines scene =
    let room = statement keys.Room (point_numbers scene.room) in
    let body = statement keys.Body (corner_numbers scene.body) in
    let start = statement keys.Start (point_numbers scene.start) in
    let clearance : map (statement keys.Clearance) (table_of scene keys.Clearance) ≡ clearance_statements scene =
    elim (eqb scene.version 1) as (λ first. map (statement keys.Clearance) (cond first [] ((pos scene.clearance ∷ []) ∷ []))
    ≡ cond first [] (statement keys.Clearance (pos scene.clearance ∷ []) ∷ [])) [ true ↦ refl | false ↦ refl ] in
    let informed : map (statement keys.Informed) (table_of scene keys.Informed) ≡ informed_statements scene.informed =
    elim scene.informed as (λ b. map (statement keys.Informed) (cond b ((pos 1 ∷ []) ∷ []) []) ≡ informed_statements b) [ true ↦ refl | false ↦ refl ] in
    let search = λ (rest : List (List (List ℕ))). statement keys.Step (pos scene.step ∷ []) ∷ statement keys.Gamma (pos scene.gamma ∷ [])
    ∷ statement keys.Seed (pos scene.seed ∷ []) ∷ statement keys.Strips (pos scene.strips ∷ []) ∷ rest in
    let late = ap search (ap₂ (λ xs ys. xs ++ ys) informed (plan-lines scene.plan)) in
    let task = ap (λ rest. start ∷ rest) (ap₂ (λ xs ys. xs ++ ys) (mapped keys.Goal goal_numbers scene.goals) late
    ∙ sym (append_assoc (map goal_statement scene.goals) (search_statements scene) (plan_statements scene.plan))) in
    ap (λ rest. version_statement scene.version ∷ room ∷ body ∷ rest)
    (ap₂ (λ xs ys. xs ++ ys) (mapped keys.Obstacle corner_numbers scene.obstacles) (ap₂ (λ xs ys. xs ++ ys) clearance task))

-- ---- what they give

given-key : (version : ℕ) (key other : Key) (lists : List (List ℤ)) (same : Bool) → AreAll (MayStand version other) lists
    → begins_with key (name_of other ∷ []) ≡ same → given_by (map (statement other) lists) key ≡ cond same lists []
given-key version key other [] true h e = refl
given-key version key other [] false h e = refl
given-key version key other (zs ∷ lists) true h e =
    rw (e, values-decimal zs (short-ranged version other zs h.0.ranged), given-key version key other lists true h.1 e) refl
given-key version key other (zs ∷ lists) false h e = rw (e, given-key version key other lists false h.1 e) refl

abbrev gathered : Given → List Key → Given
gathered given [] key = []
gathered given (other ∷ others) key = cond (begins_with key (name_of other ∷ [])) (given other) [] ++ gathered given others key

given-lines : (scene : Scene) (others : List Key) (key : Key) → given_by (lines_for (table_of scene) others) key ≡ gathered (table_of scene) others key
given-lines scene [] key = refl
given-lines scene (other ∷ others) key =
    given_by-append (map (statement other) (table_of scene other)) (lines_for (table_of scene) others) key
    ∙ ap₂ (λ xs ys. xs ++ ys) (given-key scene.version key other (table_of scene other) (begins_with key (name_of other ∷ [])) (table-fit scene other) refl)
    (given-lines scene others key)

gathered-all : (given : Given) (key : Key) → gathered given every_key key ≡ given key
gathered-all given keys.Room = append-nil (given keys.Room)
gathered-all given key = append-nil (given key)

-- the numbers of the scene
pub given-table : (scene : Scene) (key : Key) → given_by (lines_of_scene scene) key ≡ table_of scene key
given-table scene key = given-lines scene every_key key ∙ gathered-all (table_of scene) key

-- ---- each statement is one of a key

pub record IsWritten (format : Format) (version : ℕ) (words : List (List ℕ)) : Type 0 where
  pub key : Key
  pub numbers : List ℤ
  pub is : words ≡ statement key numbers
  pub may : MayStand version key numbers
  pub known : is_key version key ≡ true
  pub built : format.built key ≡ true

written-key : (format : Format) (version : ℕ) (key : Key) (lists : List (List ℤ)) → AreAll (MayStand version key) lists
    → (is_inhabited lists ≡ true → (format.built key ≡ true) × (is_key version key ≡ true)) → AreAll (IsWritten format version) (map (statement key) lists)
written-key format version key [] h known = tt
written-key format version key (zs ∷ lists) h known = (
  record { key = key; numbers = zs; is = refl; may = h.0; known = (known refl).1; built = (known refl).0 },
  written-key format version key lists h.1 (λ some. known refl),
)

written-lines : (format : Format) (scene : Scene) (others : List Key) → Covers format scene
    → AreAll (IsWritten format scene.version) (lines_for (table_of scene) others)
written-lines format scene [] covers = tt
written-lines format scene (key ∷ others) covers =
    AreAll-append (IsWritten format scene.version) (map (statement key) (table_of scene key)) (lines_for (table_of scene) others)
    (written-key format scene.version key (table_of scene key) (table-fit scene key)
    (λ some. let known = table-known scene key some in (covers.keys key known.0, known.1))) (written-lines format scene others covers)

-- ---- none has a fault

is_own-name : (key : Key) → begins_with key (name_of key ∷ []) ≡ true
is_own-name keys.Room = refl
is_own-name key = refl

some-seam : {A : Type 0} (xs ys : List A) (y : A) → is_inhabited (xs ++ y ∷ ys) ≡ true
some-seam [] ys y = refl
some-seam (x ∷ xs) ys y = refl

none-before : {A : Type 0} (xs ys : List A) → is_inhabited (xs ++ ys) ≡ false → is_inhabited xs ≡ false
none-before [] ys none = refl
none-before (x ∷ xs) ys none = absurd (cc)

-- a key for which there is room is no repeated one
fresh-one : (most : ℕ) (lists : List (List ℤ)) (left : ℕ) → length lists + suc left ≤ most → ((eqb most 1 && is_inhabited lists) || false) ≡ false
fresh-one most [] left few = elim (eqb most 1) as (λ one. ((one && false) || false) ≡ false) [ true ↦ refl | false ↦ refl ]
fresh-one most (zs ∷ lists) left few =
    let more : eqb most 1 ≡ false = grind (arith, nat_tests) in
    rw more refl

fault-between : (format : Format) (scene : Scene) (before rest : List (List (List ℕ))) (words : List (List ℕ))
    → before ++ words ∷ rest ≡ lines_of_scene scene → IsWritten format scene.version words
    → fault_of_statement format.built scene.version (given_by before) words ≡ None
fault-between format scene before rest words whole h =
    let key = h.key in
    let after = map value_of (map signed_decimal h.numbers) ∷ given_by rest key in
    let split = λ (other : Key). sym (given-table scene other) ∙ ap (λ lines. given_by lines other) (sym whole)
    ∙ given_by-append before (words ∷ rest) other in
    let next : given_by (statement key h.numbers ∷ rest) key ≡ after = rw (is_own-name key) refl in
    let seam : table_of scene key ≡ given_by before key ++ after = split key
    ∙ ap (λ lists. given_by before key ++ lists) (ap (λ ws. given_by (ws ∷ rest) key) h.is ∙ next) in
    let some = ap is_inhabited seam ∙ some-seam (given_by before key) (given_by rest key) (map value_of (map signed_decimal h.numbers)) in
    let count : length (table_of scene key) ≡ length (given_by before key) + suc (length (given_by rest key)) = ap length seam
    ∙ length-append (given_by before key) after in
    let few : length (given_by before key) + suc (length (given_by rest key)) ≤ most_lines scene.version key = omega (arith, count, table-few scene key) in
    let room : leb (most_lines scene.version key) (length (given_by before key)) ≡ false = grind (arith, nat_tests) in
    let alone = alone_before (rival_of key) split (table-alone scene key some) in
    let fresh : is_repeated scene.version (given_by before) key ≡ false = rw alone
    (fresh-one (most_lines scene.version key) (given_by before key) (length (given_by rest key)) few) in
    ap (fault_of_statement format.built scene.version (given_by before)) h.is
    ∙ fault-none format.built scene.version key h.numbers (given_by before) h.known h.built h.may fresh room
  where
    alone_before : (rival : Option Key) → ((other : Key) → table_of scene other ≡ given_by before other ++ given_by (words ∷ rest) other)
        → stands_any (table_of scene) rival ≡ false → stands_any (given_by before) rival ≡ false
    alone_before None split none = refl
    alone_before (Some other) split none =
        none-before (given_by before other) (given_by (words ∷ rest) other) (sym (ap is_inhabited (split other)) ∙ none)

sound-rest : (format : Format) (scene : Scene) (before rest : List (List (List ℕ))) → before ++ rest ≡ lines_of_scene scene
    → AreAll (IsWritten format scene.version) rest → AreSoundAfter format.built scene.version before rest
sound-rest format scene before [] whole h = tt
sound-rest format scene before (words ∷ rest) whole h = (
  fault-between format scene before rest words whole h.0,
  sound-rest format scene (before ++ words ∷ []) rest (append_assoc before (words ∷ []) rest ∙ whole) h.1,
)

named_by : (reads : ℕ → Bool) (version : ℕ) → 1 ≤ version → version ≤ 2 → reads version ≡ true
    → version_of reads (version_statement version) ≡ Some version
named_by reads zero low high read = absurd (omega arith)
named_by reads (suc zero) low high read = rw read refl
named_by reads (suc (suc zero)) low high read = rw read refl
named_by reads (suc (suc (suc n))) low high read = absurd (omega arith)

-- the first statement gives the version of the scene
pub version_of-statement : (format : Format) (scene : Scene) → Covers format scene
    → version_of format.reads (version_statement scene.version) ≡ Some scene.version
version_of-statement format scene covers = named_by format.reads scene.version scene.version_low scene.version_high covers.version

-- no statement of a scene has a fault
pub sound-lines : (format : Format) (scene : Scene) → Covers format scene → AreSound format [] (version_statement scene.version ∷ lines_of_scene scene)
sound-lines format scene covers =
    let read = version_of-statement format scene covers in (
      ap fault_of_version read,
      AreSound-after format scene.version (version_statement scene.version) [] (lines_of_scene scene) read
          (sound-rest format scene [] (lines_of_scene scene) refl (written-lines format scene every_key covers)),
    )

-- ---- words

clean-written : (format : Format) (version : ℕ) (statements : List (List (List ℕ))) → AreAll (IsWritten format version) statements
    → list_all is_clean statements ≡ true
clean-written format version [] h = refl
clean-written format version (words ∷ statements) h =
    let here : is_clean words ≡ true = ap is_clean h.0.is ∙ is_clean-statement version h.0.key h.0.numbers h.0.may in
    rw (here, clean-written format version statements h.1) refl

-- the words of a scene's statements are words
pub clean-lines : (format : Format) (scene : Scene) → Covers format scene
    → list_all is_clean (version_statement scene.version ∷ lines_of_scene scene) ≡ true
clean-lines format scene covers =
    let version = elim (eqb scene.version 1) as (λ first. is_word (cond first (version_word 1) (version_word 2)) ≡ true) [ true ↦ refl | false ↦ refl ] in
    rw (version, clean-written format scene.version (lines_of_scene scene) (written-lines format scene every_key covers)) refl
