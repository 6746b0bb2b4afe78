-- The children of a node are lowered, again and again while exchanges fail.
use Rattle.tree_rewire.proofs.Words.{◌≡◌, ◌⊎◌, ℕ, suc, ◌+◌, ◌*◌, ◌<◌, ◌≤◌, Option, Some, None, length, arith, inl, inr, refl, sym, ap, subst, cases_eq, mul-le}
use Rattle.tree_rewire.proofs.Words.{CostsAtMostThrough, HasQueued, IsFound, LooksOn, LowersChildren, BelongsTo, GoesOn, PassState, SharedState, HasSeenParent}
use Rattle.tree_rewire.proofs.Words.{IsOn, GoesOn-refl, GoesOn-trans, IsLawfulView, sees, TreeOf, cost_in, View, NamesLoweredOrPoint, PassLowers, SeesPair}
use Rattle.tree_rewire.proofs.Words.{cost_seen, IsSpreading, IsWithinParent, IsWithinSeenParent, NoneRises, OnlyAt, QueuesFallen, SpreadsFrom}
use Rattle.tree_rewire.proofs.LoweredCosts.{IsWithinParent-below}
use Rattle.tree_rewire.proofs.SeenCosts.{SeesPair-later, cost_seen-later}
use Rattle.tree_rewire.proofs.SpreadCosts.{IsSpreading-lowers, weigh, weigh-less, weigh-lower, fallen_low}

-- ---- what a pass sees anew

pub PassLowers-looks : (shared : SharedState) (before after : PassState) → BelongsTo after shared → LooksOn before.view after.view
    → after.lists.near ≡ before.lists.near → after.lists.around ≡ before.lists.around → after.lists.search ≡ before.lists.search
    → PassLowers shared before after
PassLowers-looks shared before after belongs looks near around search = record {
  belongs = belongs;
  sees_anew = record {
    goes_on = looks.goes_on;
    others = λ name off.
        looks.others name (λ n. (λ e. off (subst NamesLoweredOrPoint (sym e) tt), λ e. off (subst NamesLoweredOrPoint (sym e) tt)));
    looked = looks.looked;
    kept = looks.kept;
    held = λ off. absurd (off tt);
  };
  near = near;
  around = around;
  search = search;
}

-- ---- costs fall

-- the one that was found aside, the children that are seen anew cost less
pub NoneRises-children : (before after : View) (m : ℕ) (found : Option ℕ) → LowersChildren (IsFound found) before after m
    → ((n : ℕ) → IsFound found n → cost_seen after n ≤ cost_seen before n) → NoneRises before after
NoneRises-children before after m None lowered least n = elim (cases_eq (sees after (TreeOf n)) (sees before (TreeOf n))) [
  | inl same ↦ omega (arith, ap cost_in same)
  | inr changed ↦ omega (arith, (lowered n (λ no. no) changed).less)
]
NoneRises-children before after m (Some child) lowered least n = elim (cases_eq child n) [
  | inl is ↦ least n is
  | inr off ↦ elim (cases_eq (sees after (TreeOf n)) (sees before (TreeOf n))) [
    | inl same ↦ omega (arith, ap cost_in same)
    | inr changed ↦ omega (arith, (lowered n off changed).less)
  ]
]

pub NoneRises-settled : (before after : View) (n : ℕ) → GoesOn before after → SeesPair before n → OnlyAt n before after → NoneRises before after
NoneRises-settled before after n goes_on pair others m = elim (cases_eq m n) [
  | inl e ↦ subst (λ i. cost_seen after i ≤ cost_seen before i) (sym e) (cost_seen-later before after goes_on n pair)
  | inr apart ↦ omega (arith, ap cost_in (others m apart))
]

pub NoneRises-trans : (before mid after : View) → NoneRises before mid → NoneRises mid after → NoneRises before after
NoneRises-trans before mid after one other n = omega (arith, one n, other n)

-- ---- the list of those that wait

-- no more wait, or a cost has fallen since
pub QueuesFallen-then : (before now after : PassState) → QueuesFallen before now → NoneRises before.view now.view → NoneRises now.view after.view
    → after.view.run ≡ before.view.run → QueuesFallen now after → now.view.run ≡ before.view.run → QueuesFallen before after
QueuesFallen-then before now after (inl few) falls more run (inl less) same = inl (omega (arith, few, less))
QueuesFallen-then before now after (inr queued) falls more run (inl less) same = inr (record {
  node = queued.node;
  fell = omega (arith, queued.fell, more queued.node);
  few = omega (arith, queued.few, less);
})
QueuesFallen-then before now after was falls more run (inr queued) same = inr (record {
  node = queued.node;
  fell = omega (arith, queued.fell, falls queued.node);
  few = omega (arith, queued.few, ap (λ r. length r.marks) same);
})

-- the list as the children left it
pub QueuesFallen-same : (before after : PassState) (most : ℕ) → most ≡ length before.view.run.marks + 1
    → (after.lists.waiting ≡ before.lists.waiting) ⊎ HasQueued before.view after.view after.lists.waiting most → QueuesFallen before after
QueuesFallen-same before after most is (inl e) = inl (omega (arith, ap (λ l. length l) e))
QueuesFallen-same before after most is (inr queued) = inr (record { node = queued.node; fell = queued.fell; few = omega (arith, queued.few, is) })

-- a product that falls with its first factor
less_times : (one other k n m : ℕ) → one < other → n < k → one * k + n < other * k + m
less_times one other k n m less low =
    let most = mul-le (suc one) k other k (omega (arith, less)) (omega arith) in omega (arith, most, low)

-- The sum of costs, and then how many wait: it falls once a node is taken off and its children are lowered.
pub measure_falls : (most : ℕ) (now popped after : PassState) → popped.view ≡ now.view → length popped.lists.waiting < length now.lists.waiting
    → IsLawfulView now.view → GoesOn popped.view after.view → NoneRises popped.view after.view → QueuesFallen popped after
    → most ≡ length now.view.run.marks + 1
    → weigh most after.view * (most + 1) + length after.lists.waiting < weigh most now.view * (most + 1) + length now.lists.waiting
measure_falls most now popped after view_is shorter lawful goes_on falls (inl less) size =
    let weighs = subst (λ v. weigh most after.view ≤ weigh most v) view_is (weigh-lower most popped.view after.view falls) in
    let times = mul-le (weigh most after.view) (most + 1) (weigh most now.view) (most + 1) weighs (omega arith) in
    omega (arith, times, less, shorter)
measure_falls most now popped after view_is shorter lawful goes_on falls (inr queued) size =
    let low = fallen_low popped.view after.view queued.node (subst IsLawfulView (sym view_is) lawful) goes_on queued.fell in
    let under : queued.node < most = omega (arith, low, size, ap (λ v. length v.run.marks) view_is) in
    let weighs = subst (λ v. weigh most after.view < weigh most v) view_is (weigh-less most queued.node popped.view after.view under falls queued.fell) in
    less_times (weigh most after.view) (weigh most now.view) (most + 1) (length after.lists.waiting) (length now.lists.waiting) weighs
    (omega (arith, queued.few, size, ap (λ v. length v.run.marks) view_is))

-- ---- a spread goes on

IsWithin-through : (view : View) (m n : ℕ) → HasSeenParent view m n → CostsAtMostThrough view m n → IsWithinParent view n
IsWithin-through view m n own h =
    IsWithinParent-below view n m h.at h.from own.parent h.stands h.above_stands h.most

-- all children were looked at, and cost no more than through the node
pub SpreadsFrom-all : (n : ℕ) (before after : PassState) → GoesOn before.view after.view → LowersChildren (IsFound None) before.view after.view n
    → ((c : ℕ) → HasSeenParent after.view n c → CostsAtMostThrough after.view n c)
    → ((c g : ℕ) → ¬ IsFound None c → ¬ IsFound None g → cost_seen after.view c < cost_seen before.view c → HasSeenParent after.view c g
    → IsOn after.lists.waiting c)
    → ((c : ℕ) → IsOn before.lists.waiting c → IsOn after.lists.waiting c)
    → ((c : ℕ) → IsOn after.lists.waiting c → IsOn before.lists.waiting c ⊎ HasSeenParent before.view n c) → SpreadsFrom n before after
SpreadsFrom-all n before after goes_on lowered all parents keeps only node first h =
    IsSpreading-lowers node n first before.view after.view after.view (IsOn before.lists.waiting) (IsOn after.lists.waiting) (IsFound None)
    (λ c. inr (λ no. no)) h goes_on
    (GoesOn-refl after.view goes_on.lawful) lowered
    (λ c off. refl)
    (λ c no. absurd no) parents (λ c g no. absurd no) keeps
    (λ c on. elim (only c on) [
      | inl was ↦ SeesPair-later before.view after.view goes_on c (h.pairs c (inl was))
      | inr own ↦ SeesPair-later before.view after.view goes_on c own.written
    ])
    (λ c off own. inl (λ seen. IsWithin-through after.view n c own (all c own)))

-- Another word was found of a child: it is settled then, and waits if it has a child. The others are looked at again.
pub IsSpreading-found : (n child : ℕ) (before mid after : PassState) (waiting : ℕ → Type 0) → GoesOn before.view mid.view → GoesOn mid.view after.view
    → LowersChildren (IsFound (Some child)) before.view mid.view n → HasSeenParent before.view n child → OnlyAt child mid.view after.view
    → IsWithinSeenParent after.view child
    → ((c g : ℕ) → ¬ IsFound (Some child) c → ¬ IsFound (Some child) g → cost_seen mid.view c < cost_seen before.view c → HasSeenParent mid.view c g
    → IsOn mid.lists.waiting c)
    → ((c : ℕ) → IsOn before.lists.waiting c → IsOn mid.lists.waiting c)
    → ((c : ℕ) → IsOn mid.lists.waiting c → IsOn before.lists.waiting c ⊎ HasSeenParent before.view n c)
    → ((c : ℕ) → IsOn mid.lists.waiting c → waiting c) → ((c : ℕ) → waiting c → IsOn mid.lists.waiting c ⊎ (c ≡ child))
    → ((g : ℕ) → HasSeenParent after.view child g → waiting child) → (node : ℕ) (first : View)
    → IsSpreading node first before.view (λ p. IsOn before.lists.waiting p ⊎ (p ≡ n)) → IsSpreading node first after.view (λ p. waiting p ⊎ (p ≡ n))
IsSpreading-found n child before mid after waiting to_mid goes_on lowered own others settled parents keeps only more queued parent node first h =
    IsSpreading-lowers node n first before.view mid.view after.view (IsOn before.lists.waiting) (λ p. waiting p ⊎ (p ≡ n)) (IsFound (Some child))
    (cases_eq child) h to_mid goes_on lowered (λ c off. others c (λ e. off (sym e)))
    (λ c is.
    subst (λ i. (0 < i) × SeesPair after.view i × IsWithinSeenParent after.view i) is (
      own.child,
      SeesPair-later before.view after.view whole child own.written,
      settled,
    ))
    (λ c g off off_too less below. inl (more c (parents c g off off_too less below)))
    (λ c g is below. inl (subst waiting is (parent g (subst (λ i. HasSeenParent after.view i g) (sym is) below))))
    (λ c on. inl (more c (keeps c on)))
    (λ c on. elim on [
      | inl waits ↦ elim (queued c waits) [
        | inl was ↦ elim (only c was) [
          | inl old ↦ SeesPair-later before.view after.view whole c (h.pairs c (inl old))
          | inr below ↦ SeesPair-later before.view after.view whole c below.written
        ]
        | inr e ↦ subst (SeesPair after.view) (sym e) (SeesPair-later before.view after.view whole child own.written)
      ]
      | inr e ↦ SeesPair-later before.view after.view whole c (h.pairs c (inr e))
    ])
    (λ c off below. inr (inr refl))
  where
    whole : GoesOn before.view after.view
    whole = GoesOn-trans before.view mid.view after.view to_mid goes_on
