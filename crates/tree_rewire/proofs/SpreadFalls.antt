-- While near nodes are rewired, what fell comes to the nodes below.
use Rattle.tree_rewire.proofs.Words.{◌≡◌, ◌≢◌, ◌⊎◌, ℕ, ◌+◌, ◌<◌, arith, inl, inr, sym, ap, ◌∙◌, subst, cases_eq, Point, Clear, ConfigurationSpace, cost_of}
use Rattle.tree_rewire.proofs.Words.{IsPresent, point_of, point_of-stands, TreeOf, cost_in, parent_in, GoesOn, SeesPoint, sees, tree_seen, IsPresent-later}
use Rattle.tree_rewire.proofs.Words.{View, CostsLess, HangsElsewhere, HasSpreadFalls, IsInFall, IsShortcut, SeesPair, cost_seen, seen_cost_through, parent_seen}
use Rattle.tree_rewire.proofs.Words.{HasSettledChanges, HasSpread, IsWithinParent}
use Rattle.tree_rewire.proofs.ChosenParents.{points_later}
use Rattle.tree_rewire.proofs.SeenCosts.{SeesPair-later, cost_seen-later, stands_later}
use Rattle.tree_rewire.proofs.SpreadCosts.{IsWithinParent-later}

-- a node that was seen with its cost is seen as before, or costs less
same_or_less : (before after : View) (n : ℕ) → GoesOn before after → SeesPair before n
    → (sees after (TreeOf n) ≡ sees before (TreeOf n)) ⊎ CostsLess before after n
same_or_less before after n goes_on pair =
    elim (goes_on.later.seen (TreeOf n)) [
      | inl none ↦ absurd (omega (arith, none, pair))
      | inr falls ↦ elim falls [
        | inl same ↦ inl (sym same)
        | inr less ↦ inr less.1
      ]
    ]

-- if no node is seen anew that was seen with its cost, none is in a fall
pub HasSpreadFalls-none : (space : ConfigurationSpace) (near : ℕ → Type 0) (node : ℕ) (before after : View)
    → ((n : ℕ) → SeesPair before n → sees after (TreeOf n) ≡ sees before (TreeOf n)) → HasSpreadFalls space near node before after
HasSpreadFalls-none space near node before after kept c h =
    elim h.fell [
      | inl fell ↦ absurd (omega (arith, fell, ap cost_in (kept c h.pair)))
      | inr fell ↦ absurd (omega (arith, fell, ap cost_in (kept (parent_seen after c) h.parent_pair)))
    ]

-- What was spread is so still while no node is seen with another parent or cost, and if more nodes are taken for near ones.
pub HasSpreadFalls-still : (space : ConfigurationSpace) (near wider : ℕ → Type 0) (node : ℕ) (before after done : View) → GoesOn after done
    → ((n : ℕ) → sees done (TreeOf n) ≡ sees after (TreeOf n)) → IsPresent (tree_seen after).points node → ((n : ℕ) → near n → wider n)
    → HasSpreadFalls space near node before after → HasSpreadFalls space wider node before done
HasSpreadFalls-still space near wider node before after done goes_on same stands more spread c h =
    let parent : ℕ = parent_seen after c in
    let up : parent_seen done c ≡ parent = ap parent_in (same c) in
    let earlier : IsInFall before after c = record {
      pair = h.pair;
      parent_pair = subst (SeesPair before) up h.parent_pair;
      fell =
          elim h.fell [
            | inl fell ↦ inl (omega (arith, fell, ap cost_in (same c)))
            | inr fell ↦ inr (subst (CostsLess before after) up (omega (arith, fell, ap cost_in (same (parent_seen done c)))))
          ];
    } in
    elim (spread c earlier) [
      | inl within ↦ inl (IsWithinParent-later after done c goes_on (same c) (same parent) within)
      | inr lost ↦ inr (record {
        listed = more c lost.listed;
        shortcut = record {
          clear = lost.shortcut.clear;
          dearer =
              omega (
                arith,
                lost.shortcut.dearer,
                ap cost_in (same node),
                ap (λ q. cost_of q (point_of (tree_seen before).points c)) (points_later after done node goes_on stands),
              );
        };
        elsewhere = λ own. lost.elsewhere (sym up ∙ own);
      })
    ]

-- ---- one near node

-- a node at p is a shortcut to one at q if that costs more, by the points that were seen of both
pub IsShortcut-seen : (space : ConfigurationSpace) (before after : View) (m n : ℕ) (p q : Point) → GoesOn before after → SeesPoint before m p
    → q ≡ point_of (tree_seen before).points n → Clear space p q → cost_seen after m + cost_of p q < cost_seen before n → IsShortcut space before after m n
IsShortcut-seen space before after m n p q goes_on stands at clear less =
    let was : point_of (tree_seen before).points m ≡ p = point_of-stands (tree_seen before).points m p stands in
    let now : point_of (tree_seen after).points m ≡ p = point_of-stands (tree_seen after).points m p (stands_later before after goes_on m p stands) in
    record {
      clear = subst (λ from. Clear space from (point_of (tree_seen before).points n)) (sym was) (subst (Clear space p) at clear);
      dearer = omega (arith, less, ap (cost_of p) at, ap (λ from. cost_of from (point_of (tree_seen before).points n)) now);
    }

-- Node j alone is lowered, as this node is a shortcut to it, and then what fell is spread from it. If it hangs below this node then, it is
-- within it.
module _ (space : ConfigurationSpace) (node j : ℕ) (before mid after : View) (to_mid : GoesOn before mid) (goes_on : GoesOn mid after)
    (others : (n : ℕ) → SeesPair before n → n ≢ j → sees mid (TreeOf n) ≡ sees before (TreeOf n))
    (shortcut : SeesPair before j → IsShortcut space before after node j) (hangs : parent_seen mid j ≡ node → IsWithinParent mid j)
    (spread : HasSpread j mid after) (settled : HasSettledChanges mid after) where
  -- if neither it nor its parent is seen anew by the spread, it is node j itself
  unspread : (c : ℕ) → IsInFall before after c → sees after (TreeOf c) ≡ sees mid (TreeOf c) → parent_seen after c ≢ j
      → sees after (TreeOf (parent_seen after c)) ≡ sees mid (TreeOf (parent_seen after c))
      → IsWithinParent after c ⊎ HangsElsewhere space (λ n. n ≡ j) node before after c
  unspread c h same apart level =
      let kept : cost_seen after (parent_seen after c) ≡ cost_seen before (parent_seen after c) =
      ap cost_in (level ∙ others (parent_seen after c) h.parent_pair apart) in
      let up : parent_seen after c ≡ parent_seen mid c = ap parent_in same in
      elim (cases_eq c j) [
        | inl is ↦ elim (cases_eq (parent_seen after c) node) [
          | inl below ↦
              inl (IsWithinParent-later mid after c goes_on same (subst (λ m. sees after (TreeOf m) ≡ sees mid (TreeOf m)) up level)
              (subst (IsWithinParent mid) (sym is) (hangs (ap (parent_seen mid) (sym is) ∙ sym up ∙ below))))
          | inr elsewhere ↦ inr (record {
            listed = is;
            shortcut = subst (λ n. SeesPair before n → IsShortcut space before after node n) (sym is) shortcut h.pair;
            elsewhere = elsewhere;
          })
        ]
        | inr other ↦ elim h.fell [
          | inl fell ↦ absurd (omega (arith, fell, ap cost_in (same ∙ others c h.pair other)))
          | inr fell ↦ absurd (omega (arith, fell, kept))
        ]
      ]

  pub HasSpreadFalls-turn : HasSpreadFalls space (λ n. n ≡ j) node before after
  HasSpreadFalls-turn c h =
      let parent : ℕ = parent_seen after c in
      let pair = SeesPair-later before mid to_mid c h.pair in
      let parent_pair = SeesPair-later before mid to_mid parent h.parent_pair in
      elim (cases_eq (sees after (TreeOf c)) (sees mid (TreeOf c))) [
        | inr changed ↦ inl (settled c changed (SeesPair-later mid after goes_on parent parent_pair))
        | inl same ↦ elim (cases_eq parent j) [
          | inl is ↦ inl (spread c pair (inl is))
          | inr apart ↦ elim (same_or_less mid after parent goes_on parent_pair) [
            | inl level ↦ unspread c h same apart level
            | inr fell ↦ inl (spread c pair (inr fell))
          ]
        ]
      ]

-- ---- one after another

-- What fell was spread so far, and is by one near node more.
module _ (space : ConfigurationSpace) (near : ℕ → Type 0) (node j : ℕ) (before now after : View) (was : GoesOn before now)
    (goes_on : GoesOn now after) (member : near j) (present : IsPresent (tree_seen before).points j)
    (node_present : IsPresent (tree_seen before).points node) (node_pair : SeesPair before node)
    (so_far : HasSpreadFalls space near node before now) (turn : HasSpreadFalls space (λ n. n ≡ j) node now after) where
  -- a shortcut so far is one at last
  IsShortcut-later : (c : ℕ) → IsShortcut space before now node c → IsShortcut space before after node c
  IsShortcut-later c h = record {
    clear = h.clear;
    dearer =
        omega (
          arith,
          h.dearer,
          cost_seen-later now after goes_on node (SeesPair-later before now was node node_pair),
          ap (λ q. cost_of q (point_of (tree_seen before).points c))
              (points_later now after node goes_on (IsPresent-later before now was.later.run was.later.seen node node_present)),
        );
  }

  -- and so is one of this turn
  IsShortcut-before : SeesPair before j → IsShortcut space now after node j → IsShortcut space before after node j
  IsShortcut-before pair h =
      let here = points_later before now j was present in
      record {
        clear = subst (λ p. Clear space p (point_of (tree_seen before).points j)) (points_later before now node was node_present)
            (subst (Clear space (point_of (tree_seen now).points node)) here h.clear);
        dearer = omega (arith, h.dearer, ap (λ p. seen_cost_through after p node) here, cost_seen-later before now was j pair);
      }

  -- a node that hangs elsewhere after this turn does so at last
  HangsElsewhere-turned : (c : ℕ) → SeesPair before c → IsWithinParent after c ⊎ HangsElsewhere space (λ n. n ≡ j) node now after c
      → IsWithinParent after c ⊎ HangsElsewhere space near node before after c
  HangsElsewhere-turned c pair (inl within) = inl within
  HangsElsewhere-turned c pair (inr lost) =
      let is : c ≡ j = lost.listed in
      inr (record {
        listed = subst near (sym is) member;
        shortcut = subst (IsShortcut space before after node) (sym is)
            (IsShortcut-before (subst (SeesPair before) is pair) (subst (IsShortcut space now after node) is lost.shortcut));
        elsewhere = lost.elsewhere;
      })

  -- neither it nor its parent is seen anew by the turn
  unturned : (c : ℕ) → IsInFall before after c → sees after (TreeOf c) ≡ sees now (TreeOf c)
      → sees after (TreeOf (parent_seen after c)) ≡ sees now (TreeOf (parent_seen after c))
      → IsWithinParent after c ⊎ HangsElsewhere space near node before after c
  unturned c h same level =
      let up : parent_seen after c ≡ parent_seen now c = ap parent_in same in
      let earlier : IsInFall before now c = record {
        pair = h.pair;
        parent_pair = subst (SeesPair before) up h.parent_pair;
        fell = elim h.fell [
          | inl fell ↦ inl (omega (arith, fell, ap cost_in same))
          | inr fell ↦
              let less : CostsLess before now (parent_seen after c) = omega (arith, fell, ap cost_in level) in
              inr (subst (CostsLess before now) up less)
        ];
      } in
      elim (so_far c earlier) [
        | inl within ↦
            inl (IsWithinParent-later now after c goes_on same (subst (λ m. sees after (TreeOf m) ≡ sees now (TreeOf m)) up level) within)
        | inr lost ↦ inr (record {
          listed = lost.listed;
          shortcut = IsShortcut-later c lost.shortcut;
          elsewhere = λ own. lost.elsewhere (sym up ∙ own);
        })
      ]

  pub HasSpreadFalls-more : HasSpreadFalls space near node before after
  HasSpreadFalls-more c h =
      let parent : ℕ = parent_seen after c in
      let pair = SeesPair-later before now was c h.pair in
      let parent_pair = SeesPair-later before now was parent h.parent_pair in
      elim (same_or_less now after c goes_on pair) [
        | inr fell ↦ HangsElsewhere-turned c h.pair (turn c (record { pair = pair; parent_pair = parent_pair; fell = inl fell }))
        | inl same ↦ elim (same_or_less now after parent goes_on parent_pair) [
          | inr fell ↦ HangsElsewhere-turned c h.pair (turn c (record { pair = pair; parent_pair = parent_pair; fell = inr fell }))
          | inl level ↦ unturned c h same level
        ]
      ]
