-- Costs that fall come to the nodes below.
use Rattle.tree_rewire.proofs.Words.{◌≡◌, ◌≢◌, ◌⊎◌, ℕ, zero, suc, ◌+◌, ◌<◌, ◌≤◌, ◌^◌, List, [], length, is_some, arith, inl, inr, refl, sym, ap, ◌∙◌, subst}
use Rattle.tree_rewire.proofs.Words.{cases_eq, cost_of, IsPresent, point_of, TreeOf, cost_in, parent_in, LowersChildren, GoesOn, HasSeenParent, IsOn}
use Rattle.tree_rewire.proofs.Words.{GoesOn-refl, GoesOn-trans, IsLawfulView, sees, tree_seen, IsPresent-later, View, SeesPair, cost_seen, seen_cost_through}
use Rattle.tree_rewire.proofs.Words.{parent_seen, HasSettledChanges, HasSpread, IsLooked, IsSource, IsSpreading, IsWithinParent, IsWithinSeenParent, NoneRises}
use Rattle.tree_rewire.proofs.ChosenParents.{points_later}
use Rattle.tree_rewire.proofs.SeenCosts.{SeesPair-later, pair_low}

-- ---- the start

-- it is its own parent, and costs nothing
pub IsWithinParent-start : (view : View) → IsLawfulView view → SeesPair view 0 → IsWithinParent view 0
IsWithinParent-start view lawful written =
    let start = (lawful.pairs 0 written).start refl in
    let stands : IsPresent (tree_seen view).points 0 = ap is_some lawful.start in
    record {
      stands = stands;
      parent_stands = subst (IsPresent (tree_seen view).points) (sym start.0) stands;
      most = omega (arith, start.1);
    }

-- ---- what stays

-- a node that costs no more than through its parent does so as long as no cost of the two is seen anew
pub IsWithinParent-later : (before after : View) (n : ℕ) → GoesOn before after → sees after (TreeOf n) ≡ sees before (TreeOf n)
    → sees after (TreeOf (parent_seen before n)) ≡ sees before (TreeOf (parent_seen before n)) → IsWithinParent before n → IsWithinParent after n
IsWithinParent-later before after n goes_on same level h =
    let parent : ℕ = parent_seen before n in
    let up : parent ≡ parent_seen after n = sym (ap parent_in same) in
    let here = points_later before after n goes_on h.stands in
    let there = points_later before after parent goes_on h.parent_stands in
    record {
      stands = IsPresent-later before after goes_on.later.run goes_on.later.seen n h.stands;
      parent_stands = subst (λ m. IsPresent (tree_seen after).points m) up
          (IsPresent-later before after goes_on.later.run goes_on.later.seen parent h.parent_stands);
      most = subst (λ m. cost_seen after n ≤ seen_cost_through after (point_of (tree_seen after).points n) m) up
          (omega (
            arith,
            h.most,
            ap cost_in same,
            ap cost_in level,
            ap (λ q. cost_of q (point_of (tree_seen after).points n)) there,
            ap (cost_of (point_of (tree_seen before).points parent)) here,
          ));
    }

pub IsWithinSeenParent-later : (before after : View) (n : ℕ) → GoesOn before after → sees after (TreeOf n) ≡ sees before (TreeOf n)
    → sees after (TreeOf (parent_seen before n)) ≡ sees before (TreeOf (parent_seen before n)) → IsWithinSeenParent before n → IsWithinSeenParent after n
IsWithinSeenParent-later before after n goes_on same level settled seen =
    let parent : ℕ = parent_seen before n in
    let written : SeesPair before parent = subst (λ w. 2 ^ 63 ≤ w) level
    (subst (SeesPair after) (ap parent_in same) seen) in
    IsWithinParent-later before after n goes_on same level (settled written)

-- a source is seen with its cost
pub source_seen : (node : ℕ) (before after : View) (n : ℕ) → GoesOn before after → SeesPair before node → IsSource node before after n → SeesPair after n
source_seen node before after n goes_on given source =
    elim source [
      | inl e ↦ subst (SeesPair after) (sym e) (SeesPair-later before after goes_on node given)
      | inr fell ↦ elim (goes_on.later.seen (TreeOf n)) [
        | inl none ↦ absurd (omega (arith, fell, ap cost_in none))
        | inr falls ↦ elim falls [
          | inl same ↦ absurd (omega (arith, fell, ap cost_in same))
          | inr less ↦ less.0
        ]
      ]
    ]

-- ---- the sum of costs

-- what the nodes below number n were seen to cost together
abbrev pub weigh : ℕ → View → ℕ
weigh zero view = 0
weigh (suc n) view = cost_seen view n + weigh n view

-- it falls with the cost of one, while no other rises
pub weigh-lower : (n : ℕ) (before after : View) → NoneRises before after → weigh n after ≤ weigh n before
weigh-lower zero before after falls = omega arith
weigh-lower (suc n) before after falls = omega (arith, falls n, weigh-lower n before after falls)

pub weigh-less : (n i : ℕ) (before after : View) → i < n → NoneRises before after → cost_seen after i < cost_seen before i → weigh n after < weigh n before
weigh-less zero i before after low falls less = absurd (omega (arith, low))
weigh-less (suc n) i before after low falls less =
    elim (cases_eq n i) [
      | inl e ↦
          omega (
            arith,
            weigh-lower n before after falls,
            less,
            ap (cost_seen after) e,
            ap (cost_seen before) e,
          )
      | inr apart ↦ omega (arith, weigh-less n i before after (omega (arith, low, apart)) falls less, falls n)
    ]

-- only nodes of the run have a cost that may fall
pub fallen_low : (before after : View) (n : ℕ) → IsLawfulView before → GoesOn before after → cost_seen after n < cost_seen before n
    → n ≤ length before.run.marks
fallen_low before after n lawful goes_on fell = elim (goes_on.later.seen (TreeOf n)) [
  | inl none ↦ absurd (omega (arith, fell, ap cost_in none))
  | inr falls ↦ elim falls [
    | inl same ↦ absurd (omega (arith, fell, ap cost_in same))
    | inr less ↦ subst (λ r. n ≤ length r.marks) goes_on.later.run (pair_low after n goes_on.lawful less.0)
  ]
]

-- ---- a spread

pub IsOn-none : (n : ℕ) → ¬ IsOn [] n
IsOn-none n on = omega (arith, on.1)

-- at first the node waits, if it has a child
pub IsSpreading-begins : (node : ℕ) (view : View) (waiting : List ℕ) → IsLawfulView view → SeesPair view node
    → ((c : ℕ) → HasSeenParent view node c → IsOn waiting node) → ((n : ℕ) → IsOn waiting n → IsOn [] n ⊎ (n ≡ node))
    → IsSpreading node view view (IsOn waiting)
IsSpreading-begins node view waiting lawful given parent only = record {
  goes_on = GoesOn-refl view lawful;
  given = given;
  loose = λ c child pair source. elim source [
    | inl e ↦ inr (subst (IsOn waiting) (sym e) (parent c (record { child = child; written = pair; parent = e })))
    | inr fell ↦ absurd (omega (arith, fell))
  ];
  changed = λ c changed. absurd (changed refl);
  pairs = λ n on. elim (only n on) [
    | inl none ↦ absurd (IsOn-none n none)
    | inr e ↦ subst (SeesPair view) (sym e) given
  ];
}

-- if others wait in their place, it goes on
pub IsSpreading-waits : (node : ℕ) (before now : View) (waits more : ℕ → Type 0) → ((n : ℕ) → waits n → more n) → ((n : ℕ) → more n → SeesPair now n)
    → IsSpreading node before now waits → IsSpreading node before now more
IsSpreading-waits node before now waits more into pairs h = record {
  goes_on = h.goes_on;
  given = h.given;
  loose = λ c child pair source. elim (h.loose c child pair source) [
    | inl within ↦ inl within
    | inr on ↦ inr (into (parent_seen now c) on)
  ];
  changed = λ c changed.
      let was = h.changed c changed in
      record {
        child = was.child;
        written = was.written;
        rest =
            elim was.rest [
              | inl settled ↦ inl settled
              | inr on ↦ inr (into (parent_seen now c) on)
            ];
      };
  pairs = pairs;
}

-- The children of node m are lowered: those that are seen anew cost at most what they cost through it, but for some, which are settled then.
module _ (node m : ℕ) (before now mid after : View) (waits more : ℕ → Type 0) (but : ℕ → Type 0) (decide : (n : ℕ) → but n ⊎ ¬ but n)
    (h : IsSpreading node before now (λ p. waits p ⊎ (p ≡ m))) (to_mid : GoesOn now mid) (goes_on : GoesOn mid after)
    (lowered : LowersChildren but now mid m) (others : (n : ℕ) → ¬ but n → sees after (TreeOf n) ≡ sees mid (TreeOf n))
    (settled : (n : ℕ) → but n → (0 < n) × SeesPair after n × IsWithinSeenParent after n)
    (parents : (n g : ℕ) → ¬ but n → ¬ but g → cost_seen mid n < cost_seen now n → HasSeenParent mid n g → more n)
    (queued : (n g : ℕ) → but n → HasSeenParent after n g → more n) (keeps : (n : ℕ) → waits n → more n)
    (pairs : (n : ℕ) → more n → SeesPair after n)
    (own : (n : ℕ) → ¬ but n → HasSeenParent after m n → IsWithinSeenParent after n ⊎ more m) where
  goes : GoesOn now after
  goes = GoesOn-trans now mid after to_mid goes_on

  whole : GoesOn before after
  whole = GoesOn-trans before now after h.goes_on goes

  -- a node that is seen as it was then, and hangs below another, or is a child of node m
  unmoved : (c : ℕ) → ¬ but c → (sees after (TreeOf c) ≡ sees now (TreeOf c)) ⊎ HasSeenParent after m c
  unmoved c off = elim (cases_eq (sees mid (TreeOf c)) (sees now (TreeOf c))) [
    | inl same ↦ inl (others c off ∙ same)
    | inr changed ↦
        let is = (lowered c off changed).is in
        inr (record {
          child = is.child;
          written = omega (arith, others c off, is.written);
          parent = ap parent_in (others c off) ∙ is.parent;
        })
  ]

  -- a child whose parent is seen as it was, or waits
  parent_waits : (c : ℕ) → ¬ but c → HasSeenParent after (parent_seen after c) c
      → (sees after (TreeOf (parent_seen after c)) ≡ sees now (TreeOf (parent_seen after c))) ⊎ more (parent_seen after c)
  parent_waits c off child =
      let parent : ℕ = parent_seen after c in
      elim (decide parent) [
        | inl is ↦ inr (queued parent c is child)
        | inr other ↦ elim (cases_eq (sees mid (TreeOf parent)) (sees now (TreeOf parent))) [
          | inl same ↦ inl (others parent other ∙ same)
          | inr changed ↦
              inr (parents parent c other off (lowered parent other changed).less
              (record {
                child = child.child;
                written = omega (arith, others c off, child.written);
                parent = ap parent_in (sym (others c off)) ∙ child.parent;
              }))
        ]
      ]

  -- a child that is seen as it was, and that was settled or whose parent waited
  rest_of : (c : ℕ) → ¬ but c → HasSeenParent after (parent_seen after c) c → sees after (TreeOf c) ≡ sees now (TreeOf c)
      → (sees after (TreeOf (parent_seen after c)) ≡ sees now (TreeOf (parent_seen after c))
      → IsWithinSeenParent now c ⊎ (waits (parent_seen now c) ⊎ (parent_seen now c ≡ m)))
      → IsWithinSeenParent after c ⊎ more (parent_seen after c)
  rest_of c off child same was =
      let up : parent_seen after c ≡ parent_seen now c = ap parent_in same in
      elim (parent_waits c off child) [
        | inr on ↦ inr on
        | inl level ↦ elim (was level) [
          | inl within ↦
              inl (IsWithinSeenParent-later now after c goes same (subst (λ p. sees after (TreeOf p) ≡ sees now (TreeOf p)) up level) within)
          | inr (inl on) ↦ inr (subst more (sym up) (keeps (parent_seen now c) on))
          | inr (inr e) ↦ elim (own c off (subst (λ p. HasSeenParent after p c) (up ∙ e) child)) [
            | inl within ↦ inl within
            | inr on ↦ inr (subst more (sym (up ∙ e)) on)
          ]
        ]
      ]

  -- a child of node m
  rest_own : (c : ℕ) → ¬ but c → HasSeenParent after m c → IsWithinSeenParent after c ⊎ more (parent_seen after c)
  rest_own c off child = elim (own c off child) [
    | inl within ↦ inl within
    | inr on ↦ inr (subst more (sym child.parent) on)
  ]

  source_then : (p : ℕ) → sees after (TreeOf p) ≡ sees now (TreeOf p) → IsSource node before after p → IsSource node before now p
  source_then p level source = elim source [
    | inl e ↦ inl e
    | inr fell ↦ inr (omega (arith, fell, ap cost_in level))
  ]

  loose_then : (c : ℕ) → 0 < c → SeesPair before c → IsSource node before after (parent_seen after c)
      → IsWithinSeenParent after c ⊎ more (parent_seen after c)
  loose_then c child pair source = elim (decide c) [
    | inl is ↦ inl (settled c is).2
    | inr off ↦ elim (unmoved c off) [
      | inr below ↦ rest_own c off below
      | inl same ↦
          let up : parent_seen after c ≡ parent_seen now c = ap parent_in same in
          rest_of c off (record { child = child; written = SeesPair-later before after whole c pair; parent = refl }) same
          (λ level.
          elim (h.loose c child pair (subst (IsSource node before now) up (source_then (parent_seen after c) level source))) [
            | inl within ↦ inl (λ seen. within)
            | inr on ↦ inr on
          ])
    ]
  ]

  changed_then : (c : ℕ) → sees after (TreeOf c) ≢ sees before (TreeOf c) → IsLooked after more c
  changed_then c changed = elim (decide c) [
    | inl is ↦ record { child = (settled c is).0; written = (settled c is).1; rest = inl (settled c is).2 }
    | inr off ↦ elim (unmoved c off) [
      | inr below ↦ record { child = below.child; written = below.written; rest = rest_own c off below }
      | inl same ↦
          let was = h.changed c (λ e. changed (same ∙ e)) in
          let written : SeesPair after c = omega (arith, same, was.written) in
          record {
            child = was.child;
            written = written;
            rest = rest_of c off (record { child = was.child; written = written; parent = refl }) same (λ level. was.rest);
          }
    ]
  ]

  pub IsSpreading-lowers : IsSpreading node before after more
  IsSpreading-lowers = record {
    goes_on = whole;
    given = h.given;
    loose = λ c child pair source. elim (loose_then c child pair source) [
      | inl within ↦ inl (within (source_seen node before after (parent_seen after c) whole h.given source))
      | inr on ↦ inr on
    ];
    changed = changed_then;
    pairs = pairs;
  }

-- at last none waits
pub HasSpread-ends : (node : ℕ) (before now : View) → IsSpreading node before now (IsOn []) → HasSpread node before now
HasSpread-ends node before now h c pair source =
    elim (cases_eq c 0) [
      | inl start ↦ subst (IsWithinParent now) (sym start) (IsWithinParent-start now h.goes_on.lawful
          (subst (SeesPair now) start (SeesPair-later before now h.goes_on c pair)))
      | inr other ↦ elim (h.loose c (omega (arith, other)) pair source) [
        | inl within ↦ within
        | inr on ↦ absurd (IsOn-none (parent_seen now c) on)
      ]
    ]

pub HasSettledChanges-ends : (node : ℕ) (before now : View) → IsSpreading node before now (IsOn []) → HasSettledChanges before now
HasSettledChanges-ends node before now h c changed = elim (h.changed c changed).rest [
  | inl settled ↦ settled
  | inr on ↦ absurd (IsOn-none (parent_seen now c) on)
]
