-- The choice of a parent by the words of pairs.
use Rattle.tree_rewire.proofs.Words.{◌≡◌, ◌≢◌, ◌⊎◌, ℕ, ◌+◌, ◌*◌, ◌^◌, ◌<◌, ◌≤◌, List, ◌∷◌, [], ◌++◌, Option, map, take, Some, arith, inl, inr, refl, sym, ap}
use Rattle.tree_rewire.proofs.Words.{◌∙◌, subst, All, Contains, slice_get, slice_index_or, cases_eq, cases_lt, All-contains, All-map, All-push}
use Rattle.tree_rewire.proofs.Words.{Contains-append_left, Contains-get_or, Contains-push, cost_of-low, IsBounded, ConfigurationSpace, Point, cost_of}
use Rattle.tree_rewire.proofs.Words.{IsFirstLeast, IsNotAbove, IsOpenTo, IsPresent, point_of, IsPresent-later, StandsAt-present, Contains-after, Contains-first}
use Rattle.tree_rewire.proofs.Words.{cost_in, parent_in, tree_word, cost_in-tree_word, parent_in-tree_word, IsBounded-seen, IsLawfulView, tree_seen}
use Rattle.tree_rewire.proofs.Words.{Contains-cases, numbers_of, weighed, GoesOn, Found, View, IsMeasured, IsWeighed, IsBlockedBelow, IsClearTo, IsNextOf}
use Rattle.tree_rewire.proofs.Words.{IsNextWord, IsOpenWord, word_through, IsBestParentSeen, NamesNothing, SeesAnew, SeesPair, seen_cost_through, SeesKnot}
use Rattle.plan_model.specs.Geometry.Lengths.{root_ceiling}
use Rattle.tree_rewire.proofs.ChosenParents.{points_later, take_read}
use Rattle.tree_rewire.proofs.CostSteps.{seen_cost_through-same}
use Rattle.tree_rewire.proofs.FoundLists.{Contains-image, Contains-source}
use Rattle.tree_rewire.proofs.SeenCosts.{pair_low}

-- ---- words

-- a node that was seen with its cost has a low number, and its cost and an edge fit a word
pub number_low : (view : View) (n : ℕ) → IsLawfulView view → SeesPair view n → n < 2 ^ 18
number_low view n lawful pair = omega (arith, pair_low view n lawful pair, lawful.run.marks)

-- the cost of an edge from where a node is seen is below 2^29, and that of a new node through it fits a word
pub edge_low : (view : View) (p : Point) (n : ℕ) → IsBounded p → IsPresent (tree_seen view).points n
    → cost_of (point_of (tree_seen view).points n) p < 2 ^ 29
edge_low view p n bounded stands =
    let from = point_of (tree_seen view).points n in
    cost_of-low from p (IsBounded-seen view n from (StandsAt-present (tree_seen view).points n stands)) bounded

pub through_low : (view : View) (p : Point) (n : ℕ) → IsLawfulView view → IsBounded p → SeesKnot view n → seen_cost_through view p n < 2 ^ 44
through_low view p n lawful bounded knot = omega (arith, (lawful.pairs n knot.written).low, edge_low view p n bounded knot.stands)

-- the pair with the lesser word is not above the other
pub IsNotAbove-word : (key : ℕ → ℕ) (m i : ℕ) → m < 2 ^ 18 → i < 2 ^ 18 → tree_word m (key m) ≤ tree_word i (key i) → IsNotAbove key m i
IsNotAbove-word key m i low small le = record {
  least = omega (arith, low, small, le);
  first = λ e. omega (arith, low, small, le, e);
}

-- ---- the next word

pub IsNextWord-none : (low last : ℕ) → low < last → IsNextWord [] low last last
IsNextWord-none low last below = record {
  most = omega arith;
  above = below;
  one_of = inl refl;
  least = λ k d within. absurd (omega (arith, within));
}

-- one more word
pub IsNextWord-more : (words more : List ℕ) (low last next word then : ℕ) → more ≡ words ++ word ∷ [] → IsNextWord words low last next
    → IsNextOf low word next then → IsNextWord more low last then
IsNextWord-more words more low last next word then is h (inl taken) = record {
  most = omega (arith, h.most, taken.1, taken.2);
  above = omega (arith, taken.0, taken.2);
  one_of = inr (subst (Contains more) (sym taken.2) (subst (λ ws. Contains ws word) (sym is) (Contains-push words word)));
  least = subst (All (λ w. low < w → then ≤ w)) (sym is)
      (All-push (λ w. low < w → then ≤ w) words word (λ k d below own. omega (arith, h.least k d below own, taken.1, taken.2))
      (λ own. omega (arith, taken.2)));
}
IsNextWord-more words more low last next word then is h (inr kept) = record {
  most = omega (arith, h.most, kept.1);
  above = omega (arith, h.above, kept.1);
  one_of =
      elim h.one_of [
        | inl same ↦ inl (kept.1 ∙ same)
        | inr on ↦ inr (subst (Contains more) (sym kept.1) (subst (λ ws. Contains ws next) (sym is) (Contains-append_left words (word ∷ []) next on)))
      ];
  least = subst (All (λ w. low < w → then ≤ w)) (sym is)
      (All-push (λ w. low < w → then ≤ w) words word (λ k d below own. omega (arith, h.least k d below own, kept.1))
      (λ own. omega (arith, kept.0 own, kept.1)));
}

-- the word of the node that is read is the next one of the list
pub words_read : (f : ℕ → ℕ) (near : List ℕ) (i n : ℕ) → slice_get near i ≡ Some n → map f (take (i + 1) near) ≡ map f (take i near) ++ f n ∷ []
words_read f near i n read = ap (map f) (take_read near near i n refl read) ∙ map_push (take i near)
  where
    map_push : (xs : List ℕ) → map f (xs ++ n ∷ []) ≡ map f xs ++ f n ∷ []
    map_push [] = refl
    map_push (y ∷ xs) = ap (λ ws. f y ∷ ws) (map_push xs)

-- ---- the least open word

-- a word is the last one, or that of a near node
abbrev pub IsWordOf : View → Point → List ℕ → ℕ → ℕ → Type 0
IsWordOf view p near last word = (word ≡ last) ⊎ ((n : ℕ) × Contains near n × (word_through view p n ≡ word))

pub IsWordOf-next : (view : View) (p : Point) (near : List ℕ) (low last word : ℕ) → IsNextWord (map (word_through view p) near) low last word
    → IsWordOf view p near last word
IsWordOf-next view p near low last word h = elim h.one_of [
  | inl same ↦ inl same
  | inr on ↦ inr (Contains-source (word_through view p) near word on)
]

-- by views that differ in nothing the words are the same
pub words-same : (before after : View) → SeesAnew NamesNothing before after → (p : Point) (near : List ℕ)
    → map (word_through after p) near ≡ map (word_through before p) near
words-same before after same p [] = refl
words-same before after same p (n ∷ near) =
    ap (λ w. tree_word n w ∷ map (word_through after p) near) (seen_cost_through-same same p n)
    ∙ ap (λ ws. word_through before p n ∷ ws) (words-same before after same p near)

-- those below the first of the words are none
pub blocked-first : (space : ConfigurationSpace) (view : View) (p : Point) (near : List ℕ) (last word : ℕ)
    → IsNextWord (map (word_through view p) near) 0 last word → (n : ℕ) → Contains near n → IsBlockedBelow space view p word n
blocked-first space view p near last word h n on less clear =
    omega (
      arith,
      less,
      All-contains (λ w. 0 < w → word ≤ w) (map (word_through view p) near) (word_through view p n) h.least
          (Contains-image (word_through view p) near n on) (omega arith),
    )

module _ (space : ConfigurationSpace) (view : View) (p : Point) (near : List ℕ) (last word : ℕ) (lawful : IsLawfulView view)
    (knots : All (SeesKnot view) near) where
  abbrev points : List (Option Point)
  points = (tree_seen view).points

  knot_of : (n : ℕ) → Contains near n → SeesKnot view n
  knot_of n on = All-contains (SeesKnot view) near n knots on

  number_of : (n : ℕ) → Contains near n → word_through view p n ≡ word → parent_in word ≡ n
  number_of n on same =
      ap parent_in (sym same) ∙ parent_in-tree_word n (seen_cost_through view p n) (number_low view n lawful (knot_of n on).written)

  -- a word that is not the last is of a node that stands
  pub present_of : IsWordOf view p near last word → word ≢ last → IsPresent points (parent_in word)
  present_of of other = elim of [
    | inl same ↦ absurd (other same)
    | inr (n, on, same) ↦ subst (IsPresent points) (sym (number_of n on same)) (knot_of n on).stands
  ]

  -- the word is open, if the edge of its node is clear
  pub open_word : IsWordOf view p near last word → IsClearTo space view p (parent_in word) → (word ≡ last) ⊎ IsOpenWord space view p near word
  open_word of clear = elim of [
    | inl same ↦ inl same
    | inr (n, on, same) ↦ inr (record { node = n; on = on; is = sym same; clear = subst (IsClearTo space view p) (number_of n on same) clear })
  ]

  -- and if it is not, all below the next are blocked
  pub blocked-next : (next : ℕ) → ((n : ℕ) → Contains near n → IsBlockedBelow space view p word n) → ¬ IsClearTo space view p (parent_in word)
      → IsNextWord (map (word_through view p) near) word last next → (n : ℕ) → Contains near n → IsBlockedBelow space view p next n
  blocked-next next earlier closed h n on less clear =
      elim (cases_lt (word_through view p n) word) [
        | inl lower ↦ earlier n on lower clear
        | inr from ↦ elim (cases_eq (word_through view p n) word) [
          | inl same ↦ closed (subst (IsClearTo space view p) (sym (number_of n on same)) clear)
          | inr apart ↦
              omega (
                arith,
                less,
                All-contains (λ w. word < w → next ≤ w) (map (word_through view p) near) (word_through view p n) h.least
                    (Contains-image (word_through view p) near n on) (omega (arith, from, apart)),
              )
        ]
      ]

  -- ---- the best parent

  module _ (nearest : ℕ) (bounded : IsBounded p) (pair : SeesPair view nearest) (stands : IsPresent points nearest)
      (last_is : last ≡ word_through view p nearest) (clear : IsClearTo space view p nearest)
      (one_of : (word ≡ last) ⊎ IsOpenWord space view p near word) (most : word ≤ last)
      (blocked : (n : ℕ) → Contains near n → IsBlockedBelow space view p word n) where
    -- the word is that of a candidate with a clear edge
    pub record IsChosen (m : ℕ) : Type 0 where
      pub candidate : Contains (nearest ∷ near) m
      pub is : word ≡ word_through view p m
      pub edge : IsClearTo space view p m
      pub knot : SeesKnot view m

    pub chosen : (m : ℕ) × IsChosen m
    chosen = elim one_of [
      | inl same ↦ (
        nearest,
        record { candidate = Contains-first nearest near; is = same ∙ last_is; edge = clear; knot = record { stands = stands; written = pair } },
      )
      | inr opened ↦ (
        opened.node,
        record {
          candidate = Contains-after nearest near opened.node opened.on;
          is = opened.is;
          edge = opened.clear;
          knot = knot_of opened.node opened.on;
        },
      )
    ]

    abbrev pub m : ℕ
    m = chosen.0

    small : m < 2 ^ 18
    small = number_low view m lawful chosen.1.knot.written

    pub parent_is : parent_in word ≡ m
    parent_is = ap parent_in chosen.1.is ∙ parent_in-tree_word m (seen_cost_through view p m) small

    pub cost_is : cost_in word ≡ seen_cost_through view p (parent_in word)
    cost_is =
        ap cost_in chosen.1.is ∙ cost_in-tree_word m (seen_cost_through view p m) small (through_low view p m lawful bounded chosen.1.knot)
        ∙ sym (ap (seen_cost_through view p) parent_is)

    not_above : (i : ℕ) → IsOpenTo space points p (nearest ∷ near) i → IsNotAbove (seen_cost_through view p) m i
    not_above i own = elim (Contains-cases nearest i near own.among) [
      | inl same ↦
          subst (IsNotAbove (seen_cost_through view p) m) same
          (IsNotAbove-word (seen_cost_through view p) m nearest small (number_low view nearest lawful pair) (omega (arith, most, chosen.1.is, last_is)))
      | inr on ↦
          IsNotAbove-word (seen_cost_through view p) m i small (number_low view i lawful (knot_of i on).written)
          (elim (cases_lt (word_through view p i) word) [
            | inl lower ↦ absurd (blocked i on lower own.clear)
            | inr from ↦ omega (arith, from, chosen.1.is)
          ])
    ]

    -- the word is of the best parent and the cost through it
    pub IsBestParentSeen-word : IsBestParentSeen space view p (nearest ∷ near) (record { node = parent_in word; cost = cost_in word })
    IsBestParentSeen-word = record {
      least = subst (IsFirstLeast (seen_cost_through view p) (IsOpenTo space points p (nearest ∷ near))) (sym parent_is) (record {
        member = record { among = chosen.1.candidate; clear = chosen.1.edge };
        not_above = not_above;
      });
      cost = cost_is;
    }

-- ---- weighed records

-- with the costs of their edges, records of nodes that were seen with their costs are weighed
pub AllWeighed-seen : (before after : View) (p : Point) (found : List Found) → GoesOn before after → All (IsMeasured before p) found
    → All (SeesPair after) (numbers_of found) → All (IsWeighed after p) (weighed found)
AllWeighed-seen before after p found goes_on measured pairs =
    All-map (IsWeighed after p) (λ (f : Found). record f { edge = root_ceiling (65536 * f.distance) }) found (λ k d below.
    let f : Found = slice_index_or found k d in
    let own : IsMeasured before p f = measured k d below in
    record {
      present = IsPresent-later before after goes_on.later.run goes_on.later.seen f.node own.present;
      pair =
          All-contains (SeesPair after) (numbers_of found) f.node pairs
          (Contains-image (λ (g : Found). g.node) found f (Contains-get_or found k d below));
      edge = ap (λ (d : ℕ). root_ceiling (65536 * d)) own.distance
          ∙ ap (λ q. cost_of q p) (sym (points_later before after f.node goes_on own.present));
    })
