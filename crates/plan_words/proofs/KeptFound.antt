-- Nodes found that are kept in place: each is written behind those kept before it, and counted if it passes.
use Rattle.plan_words.proofs.Words.{◌≡◌, ℕ, ◌+◌, ◌<◌, ◌≤◌, Bool, true, false, cond, List, [], ◌∷◌, length, map, set, take, get_or, Some, refl, sym, ap, ◌∙◌}
use Rattle.plan_words.proofs.Words.{subst, arith, All, IsPermutation, filter, nat_lt, slice_get, length_permutation, cost_in, All-head, All-tail, take-set-lt}
use Rattle.plan_words.proofs.Words.{drop-set-lt, get_or-drop, get_or-map, get_or-take, length-map, length-set, length-take-le, map-set, take-set-le, take_all}
use Rattle.plan_words.proofs.Words.{slice_get-get_or, FiltersInPlace, FiltersInPlace-more_no, FiltersInPlace-more_set, IsNonDecreasing, IsNonDecreasingBy}
use Rattle.plan_words.proofs.Words.{zero, suc, ◌==◌, eqb-true, not, drop-length, IsNoted, found_in, found_of_spot, is_dearer, lists_in, noted, numbers_of}
use Rattle.plan_words.proofs.Words.{spot_in, Cell, Found, Spot}
use mir.Val.{bool_byte}

-- one more is written
pub FiltersInPlace-put : {X : Type 0} (p : X → Bool) (xs ys : List X) (k next i : ℕ) (x : X) (b : Bool) → FiltersInPlace p xs ys k i → i < length ys
    → x ≡ get_or ys i x → p x ≡ b → next ≡ k + bool_byte b → FiltersInPlace p xs (set ys k x) next (i + 1)
FiltersInPlace-put p xs ys k next i x true h below at passes is =
    subst (λ n. FiltersInPlace p xs (set ys k x) n (i + 1)) (sym is) (FiltersInPlace-more_set h below passes at)
FiltersInPlace-put p xs ys k next i x false h below at passes is =
    let more = FiltersInPlace-more_no h below passes at in
    subst (λ n. FiltersInPlace p xs (set ys k x) n (i + 1)) (omega (arith, is)) (record {
      front = take-set-le k ys k x (omega arith) ∙ more.front;
      rest = drop-set-lt (i + 1) ys k x (omega (arith, h.behind)) ∙ more.rest;
      behind = more.behind;
      within = more.within;
      long = length-set ys k x ∙ more.long;
    })

-- the records of the cells that pass are the records that do
pub filter-found : (words : ℕ → ℕ) (cost : ℕ) (cells : List Cell)
    → filter (is_dearer words cost) (map found_in cells) ≡ map found_in (filter (λ cell. is_dearer words cost (found_in cell)) cells)
filter-found words cost [] = refl
filter-found words cost (cell ∷ cells) =
    one_more (is_dearer words cost (found_in cell)) cell (filter (is_dearer words cost) (map found_in cells))
    (filter (λ c. is_dearer words cost (found_in c)) cells) (filter-found words cost cells)
  where
    one_more : (b : Bool) (c : Cell) (founds : List Found) (rest : List Cell) → founds ≡ map found_in rest
        → cond b (found_in c ∷ founds) founds ≡ map found_in (cond b (c ∷ rest) rest)
    one_more true c founds rest e = ap (λ fs. found_in c ∷ fs) e
    one_more false c founds rest e = e

-- ---- cells

-- what holds of all records holds of all cells
pub All-cells : (P : Found → Type 0) (cells : List Cell) → All P (map found_in cells) → All (λ cell. P (found_in cell)) cells
All-cells P cells all k d below =
    subst P (get_or-map found_in cells k d (found_in d) below) (all k (found_in d) (omega (arith, below, length-map cells found_in)))

-- a record among those found is in one of the first cells
pub found_below : (cells : List Cell) (count i : ℕ) → count ≤ length cells → i < length (map found_in (take count cells)) → i < count
found_below cells count i within below = omega (arith, below, length-map (take count cells) found_in, length-take-le count cells within)

-- the record that is read
pub found_here : (cells : List Cell) (count i : ℕ) (cell : Cell) → i < count → count ≤ length cells → cell ≡ get_or cells i cell
    → slice_get (map found_in (take count cells)) i ≡ Some (found_in cell)
found_here cells count i cell below within at =
    let front = take count cells in
    let inside : i < length front = omega (arith, below, length-take-le count cells within) in
    slice_get-get_or (map found_in front) i (found_in cell) (omega (arith, inside, length-map front found_in))
    ∙ ap Some (get_or-map found_in front i cell (found_in cell) inside ∙ ap found_in (get_or-take count cells i cell below ∙ sym at))

-- another record in the place of one
pub found-set : (cells : List Cell) (count i : ℕ) (cell : Cell) (found : Found) → i < count → found_in cell ≡ found
    → map found_in (take count (set cells i cell)) ≡ set (map found_in (take count cells)) i found
found-set cells count i cell found below is =
    ap (map found_in) (take-set-lt count cells i cell below)
    ∙ map-set found_in (take count cells) i cell
    ∙ ap (set (map found_in (take count cells)) i) is

-- a node is noted in the cell of a spot, before any is taken off
pub lists-noted : (cells : List Cell) (taken count i : ℕ) (cell : Cell) (spot : Spot) → taken ≡ 0 → count ≤ taken → spot_in cell ≡ spot
    → lists_in (set cells i cell) taken count ≡ record (lists_in cells taken count) { spots = set (lists_in cells taken count).spots i spot }
lists-noted cells zero zero i cell spot none few is =
    ap (λ spots. record { spots = spots; taken = 0; found = [] })
    (map-set spot_in cells i cell ∙ ap (set (map spot_in cells) i) is)
lists-noted cells zero (suc n) i cell spot none few is = absurd (omega (arith, few))
lists-noted cells (suc n) count i cell spot none few is = absurd (omega (arith, none))

-- the first cells are of found nodes, if they are of noted ones
found-noted : (cells : List Cell) (n : ℕ) → All IsNoted (take n (map spot_in cells))
    → map found_in (take n cells) ≡ map found_of_spot (take n (map spot_in cells))
found-noted cells zero all = refl
found-noted [] (suc n) all = refl
found-noted (cell ∷ cells) (suc n) all =
    ap (λ t. record { node = cell.node; edge = t; distance = cell.word } ∷ map found_in (take n cells))
    (eqb-true cell.tag 0 (not_false (cell.tag == 0) (All-head IsNoted (spot_in cell) (take n (map spot_in cells)) all)))
    ∙ ap (λ founds. noted cell.node cell.word ∷ founds) (found-noted cells n (All-tail IsNoted (spot_in cell) (take n (map spot_in cells)) all))
  where
    not_false : (b : Bool) → not b ≡ false → b ≡ true
    not_false true same = refl
    not_false false same = cc

-- all spots were visited
pub lists-ended : (cells : List Cell) (taken n : ℕ) → taken ≡ 0 → All IsNoted (take n (lists_in cells taken 0).spots)
    → lists_in cells (length cells) n
    ≡ record { spots = []; taken = length (lists_in cells taken 0).spots; found = map found_of_spot (take n (lists_in cells taken 0).spots) }
lists-ended cells zero n none all =
    ap (λ left. record { spots = map spot_in left; taken = length cells; found = map found_in (take n cells) }) (drop-length cells)
    ∙ ap (λ long. record { spots = []; taken = long; found = map found_in (take n cells) }) (sym (length-map cells spot_in))
    ∙ ap (λ found. record { spots = []; taken = length (map spot_in cells); found = found }) (found-noted cells n all)
lists-ended cells (suc n) count none all = absurd (omega (arith, none))

-- the cell that is read was there from the start, so its number is low
pub low_at : (p : Cell → Bool) (xs ys : List Cell) (k i found nodes : ℕ) (x : Cell) → FiltersInPlace p xs ys k i → i < found → found ≤ length xs
    → x ≡ get_or ys i x → All (λ cell. cell.node < nodes) (take found xs) → x.node < nodes
low_at p xs ys k i found nodes x h below within at all =
    let here : i + 0 ≡ i = omega arith in
    let same : get_or xs i x ≡ x =
    ap (λ n. get_or xs n x) (sym here) ∙ sym (get_or-drop i xs 0 x) ∙ ap (λ l. get_or l 0 x) (sym h.rest) ∙ get_or-drop i ys 0 x
    ∙ ap (λ n. get_or ys n x) here ∙ sym at in
    subst (λ (cell : Cell). cell.node < nodes) (get_or-take found xs i x below ∙ same) (all i x (omega (arith, below, length-take-le found xs within)))

-- cells whose numbers rise are of records whose numbers do
pub rising_numbers : (cells : List Cell) → IsNonDecreasingBy (λ cell. cell.node) cells → IsNonDecreasing (numbers_of (map found_in cells))
rising_numbers cells rising i j d le below =
    let z : Cell = record { node = 0; tag = 0; word = 0 } in
    let founds = map found_in cells in
    let long = length-map cells found_in in
    let longer = length-map founds (λ (f : Found). f.node) in
    let inside : j < length cells = omega (arith, below, long, longer) in
    omega (
      arith,
      rising i j z le inside,
      get_or-map (λ (f : Found). f.node) founds i (found_in z) d (omega (arith, le, inside, long)),
      get_or-map (λ (f : Found). f.node) founds j (found_in z) d (omega (arith, inside, long)),
      ap (λ (f : Found). f.node) (get_or-map found_in cells i z (found_in z) (omega (arith, le, inside))),
      ap (λ (f : Found). f.node) (get_or-map found_in cells j z (found_in z) inside),
    )

-- the same are dearer by words that are the same for all of them
pub filter-same : (words others : ℕ → ℕ) (cost most : ℕ) (founds : List Found) → ((n : ℕ) → n ≤ most → words n ≡ others n)
    → All (λ f. f.node ≤ most) founds → filter (is_dearer words cost) founds ≡ filter (is_dearer others cost) founds
filter-same words others cost most [] same low = refl
filter-same words others cost most (f ∷ founds) same low =
    ap (λ rest. cond (is_dearer words cost f) (f ∷ rest) rest)
    (filter-same words others cost most founds same (All-tail (λ g. g.node ≤ most) f founds low))
    ∙ ap (λ word. cond (nat_lt (cost + f.edge) (cost_in word)) (f ∷ filter (is_dearer others cost) founds) (filter (is_dearer others cost) founds))
    (same f.node (All-head (λ g. g.node ≤ most) f founds low))

-- cells that were cut to those kept, and sorted
pub all_kept : (kept : ℕ) (cells cut sorted : List Cell) → kept ≤ length cells → cut ≡ take kept cells → IsPermutation cut sorted
    → take kept sorted ≡ sorted
all_kept kept cells cut sorted within is moved =
    take_all kept sorted
    (omega (arith, length_permutation cut sorted moved, ap (λ (l : List Cell). length l) is, length-take-le kept cells within))
