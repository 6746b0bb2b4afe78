-- A walk along the children of a node that lowers them.
use Rattle.plan_words.proofs.Words.{◌≡◌, ◌≢◌, ◌⊎◌, ℕ, suc, ◌<◌, ◌≤◌, List, ◌∷◌, length, inl, inr, refl, sym, ap, ◌∙◌, subst, arith, slice_index, slice_set}
use Rattle.plan_words.proofs.Words.{cases_eq, get_or-set_other, get_or-set_same, length-set, CostsAtMostThrough, HasQueued, IsLoweredChild, LooksOn}
use Rattle.plan_words.proofs.Words.{LowersChildren, PostsChanged, SeesSamePoints, FindsLess, chain_of, sibling_chain_in, GoesOn, HasFirstPairs, HasWholeShare}
use Rattle.plan_words.proofs.Words.{HasSeenParent, IsOn, AreMembers, IndexesChains, siblings_from, TreeOf, best_word, cost_in, AreMembers-chain}
use Rattle.plan_words.proofs.Words.{siblings_from-here, times-else, times-here, times, IsLawfulView, SeesGoal, sees, ChildIndex, View}
use Rattle.plan_words.proofs.ChildCosts.{CostsAtMostThrough-kept, HasSeenParent-kept, apart_above}
use Rattle.plan_words.proofs.Posting.{goal-goes_on}
use Rattle.plan_words.proofs.SeatSteps.{LooksOn-refl, LooksOn-trans, whole_later}
use Rattle.plan_words.proofs.SeenChildren.{HasSeenParent-chain, chain-HasSeenParent, pair-seen}

-- ---- the list of tree words

-- a word is written down as it was seen
pub HasFirstPairs-at : (view then : View) (pairs : List ℕ) (m x : ℕ) → then.run ≡ view.run
    → m < length pairs → ((n : ℕ) → n ≢ m → sees then (TreeOf n) ≡ sees view (TreeOf n)) → x ≡ sees then (TreeOf m) → HasFirstPairs view pairs
    → HasFirstPairs then (slice_set pairs m x)
HasFirstPairs-at view then pairs m x run low others here has = record {
  within = omega (arith, length-set pairs m x, has.within, ap (λ r. length r.marks) run);
  seen = λ n within. elim (cases_eq n m) [
    | inl e ↦
        ap (slice_index (slice_set pairs m x)) e ∙ get_or-set_same pairs m x 0 low ∙ here
        ∙ ap (λ i. sees then (TreeOf i)) (sym e)
    | inr apart ↦ get_or-set_other pairs m n x 0 apart ∙ has.seen n (subst (λ r. n ≤ length r.marks) run within) ∙ sym (others n apart)
  ];
}

-- the chains stay if the child keeps its parent
pub chains-at : (view then : View) (pairs : List ℕ) (m child x : ℕ) → HasFirstPairs view pairs → HasFirstPairs then (slice_set pairs child x)
    → HasSeenParent view m child → HasSeenParent then m child
    → (n : ℕ) → sibling_chain_in (slice_set pairs child x) n ≡ sibling_chain_in pairs n
chains-at view then pairs m child x has has_then was is n = elim (cases_eq n child) [
  | inl e ↦
      ap (sibling_chain_in (slice_set pairs child x)) e ∙ chain-HasSeenParent then (slice_set pairs child x) m child has_then is
      ∙ sym (chain-HasSeenParent view pairs m child has was) ∙ ap (sibling_chain_in pairs) (sym e)
  | inr apart ↦ chain_same n (get_or-set_other pairs child n x 0 apart)
]
  where
    chain_same : (i : ℕ) → slice_index (slice_set pairs child x) i ≡ slice_index pairs i
        → sibling_chain_in (slice_set pairs child x) i ≡ sibling_chain_in pairs i
    chain_same i same = ap (λ w. chain_of i w) same

-- ---- the walk

-- The walk over the children of node m stands at a child: each child before it costs at most what it costs through node m. Each node whose
-- cost fell waits, if it has a child.
pub record IsLowering (children : ChildIndex) (m : ℕ) (was now : View) (words_then words queue waiting : List ℕ) (size child : ℕ) : Type 0 where
  pub looks : LooksOn was now
  pub pairs : HasFirstPairs now words
  pub chains : (n : ℕ) → sibling_chain_in words n ≡ sibling_chain_in words_then n
  pub as_many : length words ≡ length words_then
  pub level : sees now (TreeOf m) ≡ sees was (TreeOf m)
  pub ahead : (n : ℕ) → 0 < times (siblings_from children child) n → sibling_chain_in words_then n ≡ suc m
  pub met : (n : ℕ) → sibling_chain_in words_then n ≡ suc m → CostsAtMostThrough now m n ⊎ (0 < times (siblings_from children child) n)
  pub lowered : (n : ℕ) → sees now (TreeOf n) ≢ sees was (TreeOf n) → IsLoweredChild was now m n
  pub posted : PostsChanged (λ n. ⊥) was now
  pub parents : (n g : ℕ) → cost_in (sees now (TreeOf n)) < cost_in (sees was (TreeOf n)) → HasSeenParent now n g → IsOn waiting n
  pub keeps : (n : ℕ) → IsOn queue n → IsOn waiting n
  pub only : (n : ℕ) → IsOn waiting n → IsOn queue n ⊎ HasSeenParent was m n
  pub same : (waiting ≡ queue) ⊎ HasQueued was now waiting size
  pub points : HasWholeShare was → SeesSamePoints was now

pub IsLowering-start : (children : ChildIndex) (m : ℕ) (view : View) (words waiting : List ℕ) (size child : ℕ) → IsLawfulView view → HasFirstPairs view words
    → AreMembers (sibling_chain_in words) (suc m) (siblings_from children child) → IsLowering children m view view words words waiting waiting size child
IsLowering-start children m view words waiting size child lawful pairs are = record {
  looks = LooksOn-refl view lawful;
  pairs = pairs;
  chains = λ n. refl;
  as_many = refl;
  level = refl;
  ahead = λ n there. AreMembers-chain (sibling_chain_in words) (suc m) (siblings_from children child) n are there;
  met = λ n here. inr (omega (arith, are.each n here));
  lowered = λ n changed. absurd (changed refl);
  posted = λ n off changed goal. absurd (changed refl);
  parents = λ n g fell own. absurd (omega (arith, fell));
  keeps = λ n on. on;
  only = λ n on. inl on;
  same = inl refl;
  points = λ all n. refl;
}

-- the walk stands at a child of node m
module _ (children : ChildIndex) (m child : ℕ) (was now : View) (words_then words queue waiting : List ℕ) (size : ℕ)
    (h : IsLowering children m was now words_then words queue waiting size child)
    (index : IndexesChains (length words_then) (sibling_chain_in words_then) children) (some : 0 < child) where
  pub child_here : sibling_chain_in words_then child ≡ suc m
  child_here = h.ahead child (siblings_from-here children child some (omega (arith, index.nexts, index.some)))

  pub child_low : child < length words_then
  child_low = index.within child (omega (arith, child_here))

  pub child_own : HasSeenParent now m child
  child_own = HasSeenParent-chain now words m child h.pairs (h.chains child ∙ child_here)

  -- its word is the one that was seen last
  pub child_seen : slice_index words child ≡ sees now (TreeOf child)
  child_seen = pair-seen now words child h.pairs child_own.written

-- at last all children were looked at
pub IsLowering-ends : (children : ChildIndex) (m child : ℕ) (was now : View) (words_then words queue waiting : List ℕ) (size : ℕ)
    → IsLowering children m was now words_then words queue waiting size child → child ≡ 0 → (n : ℕ) → HasSeenParent now m n → CostsAtMostThrough now m n
IsLowering-ends children m child was now words_then words queue waiting size h none n own =
    elim (h.met n (sym (h.chains n) ∙ chain-HasSeenParent now words m n h.pairs own)) [
      | inl within ↦ within
      | inr there ↦ absurd (omega (arith, there, ap (λ i. times (siblings_from children i) n) none))
    ]

-- A child was looked at: now to then.
module _ (children : ChildIndex) (m child : ℕ) (was now then : View) (words_then words queue waiting : List ℕ) (size : ℕ)
    (h : IsLowering children m was now words_then words queue waiting size child) (pairs_then : HasFirstPairs was words_then)
    (here : sibling_chain_in words_then child ≡ suc m) (looks : LooksOn now then)
    (others : (n : ℕ) → n ≢ child → sees then (TreeOf n) ≡ sees now (TreeOf n)) (points : HasWholeShare now → SeesSamePoints now then) where
  pub points_then : HasWholeShare was → SeesSamePoints was then
  points_then all n = points (whole_later was now h.looks all) n ∙ h.points all n

  pub own_was : HasSeenParent was m child
  own_was = HasSeenParent-chain was words_then m child pairs_then here

  pub own_now : HasSeenParent now m child
  own_now = HasSeenParent-chain now words m child h.pairs (h.chains child ∙ here)

  level_step : sees then (TreeOf m) ≡ sees now (TreeOf m)
  level_step = others m (apart_above now m child h.looks.goes_on.lawful own_now)

  -- the cost of the child was no more than at first
  no_more : cost_in (sees now (TreeOf child)) ≤ cost_in (sees was (TreeOf child))
  no_more = elim (cases_eq (sees now (TreeOf child)) (sees was (TreeOf child))) [
    | inl e ↦ omega (arith, ap cost_in e)
    | inr changed ↦ omega (arith, (h.lowered child changed).less)
  ]

  lowered_else : (n : ℕ) → n ≢ child → sees then (TreeOf n) ≢ sees was (TreeOf n) → IsLoweredChild was then m n
  lowered_else n apart changed =
      let same = others n apart in
      let before = h.lowered n (λ e. changed (same ∙ e)) in
      record {
        was = before.was;
        is = HasSeenParent-kept now then m n same before.is;
        less = omega (arith, before.less, ap cost_in same);
        most = CostsAtMostThrough-kept now then m n looks.goes_on same level_step before.most;
      }

  best_step : then.best ≤ now.best
  best_step = looks.goes_on.later.best

  posted_else : (n : ℕ) → n ≢ child → sees then (TreeOf n) ≢ sees was (TreeOf n) → SeesGoal was n → then.best ≤ best_word (cost_in (sees then (TreeOf n))) n
  posted_else n apart changed goal =
      let same = others n apart in
      omega (arith, h.posted n (λ no. no) (λ e. changed (same ∙ e)) goal, best_step, ap (λ w. best_word (cost_in w) n) same)

  -- ---- it is a child still, and costs at most what it costs through node m

  module _ (next : ℕ) (words_now more : List ℕ) (siblings : siblings_from children child ≡ child ∷ siblings_from children next)
      (is : HasSeenParent then m child) (most : CostsAtMostThrough then m child)
      (fell : (sees then (TreeOf child) ≡ sees now (TreeOf child)) ⊎ FindsLess (sees now (TreeOf child)) (sees then (TreeOf child)))
      (pairs : HasFirstPairs then words_now) (chains : (n : ℕ) → sibling_chain_in words_now n ≡ sibling_chain_in words n)
      (as_many : length words_now ≡ length words) (keeps : (n : ℕ) → IsOn waiting n → IsOn more n)
      (only : (n : ℕ) → IsOn more n → IsOn waiting n ⊎ (n ≡ child))
      (parents : (g : ℕ) → sees then (TreeOf child) ≢ sees now (TreeOf child) → HasSeenParent then child g → IsOn more child)
      (same : (more ≡ waiting) ⊎ (FindsLess (sees now (TreeOf child)) (sees then (TreeOf child)) × (length more ≤ size)))
      (posted : sees then (TreeOf child) ≢ sees now (TreeOf child) → SeesGoal now child
      → then.best ≤ best_word (cost_in (sees then (TreeOf child))) child) where
    less_then : sees then (TreeOf child) ≢ sees was (TreeOf child) → cost_in (sees then (TreeOf child)) < cost_in (sees was (TreeOf child))
    less_then changed = elim fell [
      | inl e ↦ omega (arith, ap cost_in e, (h.lowered child (λ old. changed (e ∙ old))).less)
      | inr less ↦ omega (arith, less.less, no_more)
    ]

    lowered_then : (n : ℕ) → sees then (TreeOf n) ≢ sees was (TreeOf n) → IsLoweredChild was then m n
    lowered_then n changed = elim (cases_eq n child) [
      | inr apart ↦ lowered_else n apart changed
      | inl e ↦ subst (IsLoweredChild was then m) (sym e)
          (record { was = own_was; is = is; less = less_then (subst (λ i. sees then (TreeOf i) ≢ sees was (TreeOf i)) e changed); most = most })
    ]

    posted_here : sees then (TreeOf child) ≢ sees was (TreeOf child) → SeesGoal was child → then.best ≤ best_word (cost_in (sees then (TreeOf child))) child
    posted_here changed goal = elim (cases_eq (sees then (TreeOf child)) (sees now (TreeOf child))) [
      | inr fresh ↦ posted fresh (goal-goes_on was now child h.looks.goes_on goal)
      | inl e ↦ omega (arith, h.posted child (λ no. no) (λ old. changed (e ∙ old)) goal, best_step, ap (λ w. best_word (cost_in w) child) e)
    ]

    posted_then : PostsChanged (λ n. ⊥) was then
    posted_then n off changed goal = elim (cases_eq n child) [
      | inr apart ↦ posted_else n apart changed goal
      | inl e ↦ subst (λ i. then.best ≤ best_word (cost_in (sees then (TreeOf i))) i) (sym e)
          (posted_here (subst (λ i. sees then (TreeOf i) ≢ sees was (TreeOf i)) e changed) (subst (SeesGoal was) e goal))
    ]

    -- whoever has a child then had it
    had : (n g : ℕ) → HasSeenParent then n g → HasSeenParent now n g
    had n g own = HasSeenParent-chain now words n g h.pairs (sym (chains g) ∙ chain-HasSeenParent then words_now n g pairs own)

    parents_then : (n g : ℕ) → cost_in (sees then (TreeOf n)) < cost_in (sees was (TreeOf n)) → HasSeenParent then n g → IsOn more n
    parents_then n g less own = elim (cases_eq n child) [
      | inr apart ↦ keeps n (h.parents n g (omega (arith, less, ap cost_in (others n apart))) (had n g own))
      | inl e ↦ elim (cases_eq (sees then (TreeOf n)) (sees now (TreeOf n))) [
        | inl level ↦ keeps n (h.parents n g (omega (arith, less, ap cost_in level)) (had n g own))
        | inr changed ↦ subst (IsOn more) (sym e)
            (parents g (subst (λ i. sees then (TreeOf i) ≢ sees now (TreeOf i)) e changed) (subst (λ i. HasSeenParent then i g) e own))
      ]
    ]

    met_then : (n : ℕ) → sibling_chain_in words_then n ≡ suc m → CostsAtMostThrough then m n ⊎ (0 < times (siblings_from children next) n)
    met_then n own = elim (cases_eq child n) [
      | inl e ↦ inl (subst (CostsAtMostThrough then m) e most)
      | inr apart ↦ elim (h.met n own) [
        | inl within ↦ inl (CostsAtMostThrough-kept now then m n looks.goes_on (others n (λ e. apart (sym e))) level_step within)
        | inr there ↦
            inr (omega (arith, ap (λ members. times members n) siblings, times-else (siblings_from children next) child n apart, there))
      ]
    ]

    ahead_then : (n : ℕ) → 0 < times (siblings_from children next) n → sibling_chain_in words_then n ≡ suc m
    ahead_then n there = h.ahead n (elim (cases_eq child n) [
      | inl e ↦ omega (arith, ap (λ members. times members n) siblings, times-here (siblings_from children next) child n e)
      | inr apart ↦ omega (arith, ap (λ members. times members n) siblings, times-else (siblings_from children next) child n apart, there)
    ])

    queued_on : HasQueued was now waiting size → HasQueued was then waiting size
    queued_on queued = record {
      node = queued.node;
      fell =
          elim (cases_eq queued.node child) [
            | inr apart ↦ omega (arith, queued.fell, ap cost_in (others queued.node apart))
            | inl e ↦ elim fell [
              | inl level ↦
                  omega (arith, queued.fell, ap (λ i. cost_in (sees then (TreeOf i))) e, ap (λ i. cost_in (sees now (TreeOf i))) e, ap cost_in level)
              | inr less ↦
                  omega (
                    arith,
                    queued.fell,
                    ap (λ i. cost_in (sees then (TreeOf i))) e,
                    ap (λ i. cost_in (sees now (TreeOf i))) e,
                    less.less,
                  )
            ]
          ];
      few = queued.few;
    }

    same_then : (more ≡ queue) ⊎ HasQueued was then more size
    same_then = elim same [
      | inr queued ↦ inr (record { node = child; fell = omega (arith, queued.0.less, no_more); few = queued.1 })
      | inl e ↦ elim h.same [
        | inl old ↦ inl (e ∙ old)
        | inr queued ↦ inr (subst (λ l. HasQueued was then l size) (sym e) (queued_on queued))
      ]
    ]

    pub IsLowering-step : IsLowering children m was then words_then words_now queue more size next
    IsLowering-step = record {
      looks = LooksOn-trans was now then h.looks looks;
      pairs = pairs;
      chains = λ n. chains n ∙ h.chains n;
      as_many = as_many ∙ h.as_many;
      level = level_step ∙ h.level;
      ahead = ahead_then;
      met = met_then;
      lowered = lowered_then;
      posted = posted_then;
      parents = parents_then;
      keeps = λ n on. keeps n (h.keeps n on);
      only = λ n on. elim (only n on) [
        | inl before ↦ h.only n before
        | inr e ↦ inr (subst (HasSeenParent was m) (sym e) own_was)
      ];
      same = same_then;
      points = points_then;
    }

  -- ---- another word of lower cost was found

  module _ (found : FindsLess (sees now (TreeOf child)) (sees then (TreeOf child))) where
    pub found_less : FindsLess (sees was (TreeOf child)) (sees then (TreeOf child))
    found_less = record { written = found.written; less = omega (arith, found.less, no_more) }

    pub lowered_found : LowersChildren (λ n. child ≡ n) was then m
    lowered_found n off = lowered_else n (λ e. off (sym e))

    pub posted_found : PostsChanged (λ n. child ≡ n) was then
    posted_found n off = posted_else n (λ e. off (sym e))

    pub parents_found : (n g : ℕ) → ¬ (child ≡ n) → ¬ (child ≡ g) → cost_in (sees then (TreeOf n)) < cost_in (sees was (TreeOf n))
        → HasSeenParent then n g → IsOn waiting n
    parents_found n g off off_too less own =
        h.parents n g (omega (arith, less, ap cost_in (others n (λ e. off (sym e)))))
        (HasSeenParent-kept then now n g (sym (others g (λ e. off_too (sym e)))) own)

    pub same_found : (waiting ≡ queue) ⊎ HasQueued was then waiting size
    same_found = elim h.same [
      | inl e ↦ inl e
      | inr queued ↦ inr (record {
        node = queued.node;
        fell =
            elim (cases_eq queued.node child) [
              | inr apart ↦ omega (arith, queued.fell, ap cost_in (others queued.node apart))
              | inl e ↦
                  omega (
                    arith,
                    queued.fell,
                    ap (λ i. cost_in (sees then (TreeOf i))) e,
                    ap (λ i. cost_in (sees now (TreeOf i))) e,
                    found.less,
                  )
            ];
        few = queued.few;
      })
    ]

-- ---- the same since a view before, in which all parents and costs were seen as at first

module _ (old was now : View) (m : ℕ) (same : (n : ℕ) → sees was (TreeOf n) ≡ sees old (TreeOf n)) where
  pub LowersChildren-since : (but : ℕ → Type 0) → LowersChildren but was now m → LowersChildren but old now m
  LowersChildren-since but h n off changed =
      let lowered = h n off (λ e. changed (e ∙ same n)) in
      record {
        was = HasSeenParent-kept was old m n (sym (same n)) lowered.was;
        is = lowered.is;
        less = omega (arith, lowered.less, ap cost_in (same n));
        most = lowered.most;
      }

  pub PostsChanged-since : (but : ℕ → Type 0) → GoesOn old was → PostsChanged but was now → PostsChanged but old now
  PostsChanged-since but goes_on h n off changed goal = h n off (λ e. changed (e ∙ same n)) (goal-goes_on old was n goes_on goal)

  pub HasQueued-since : (waiting : List ℕ) (most size : ℕ) → size ≤ most → HasQueued was now waiting size → HasQueued old now waiting most
  HasQueued-since waiting most size low queued =
      record { node = queued.node; fell = omega (arith, queued.fell, ap cost_in (same queued.node)); few = omega (arith, queued.few, low) }
