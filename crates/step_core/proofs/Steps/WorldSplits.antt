-- A split keeps the law of worlds: no worker is lost, and the hand stays with the pass that is split.
use Rattle.step_core.proofs.Words.{◌≡◌, ◌+◌, ◌≤◌, [], ◌∷◌, ◌++◌, ◌∙◌, ◌⊎◌, ◌==◌, ◌<◌, ℕ, zero, suc, Bool, true, false, List, length, set, None, refl, sym, ap}
use Rattle.step_core.proofs.Words.{subst, inl, inr, arith, le_trans, cond, eqb-true, length-replicate, sum_by_push, some, some-ne-none, get_elem?, once_if}
use Rattle.step_core.proofs.Words.{AreSeenLawfully, AreBehind, HaveWholePairs, Word, Words, ChildOf, RecordOf, TreeOf, tree_of_word, AreBehind-refl, has_count}
use Rattle.step_core.proofs.Words.{has_first, has_link, has_point, has_tree, holds_at, looker, parted, second_alone, stepped, unlooked, without_second}
use Rattle.step_core.proofs.Words.{worker_apart, SeesTree, IsViewOf, holds, last_look, last_zero, run_sizes, sees, setup_in, share, spent, times, took_over}
use Rattle.step_core.proofs.Words.{tree_seen, words_of_run, Agree, EachView, IsMember, IsWorld, SeesBest, hands_at, limit_of, state_in, Member, SharedRun}
use Rattle.step_core.proofs.Words.{Stage, View}
use Rattle.step_core.proofs.Steps.FinishedTurns.{times-cons}
use Rattle.step_core.proofs.OneView.SeenTreesOfViews.{SeesTree-apart, SeesTree-looker, SeesTree-parted, SeesTree-stepped}
use Rattle.step_core.proofs.Parts.ViewLists.{at-set, each-push, each-set, maximum-push, maximum-set, sum-set}
use Rattle.step_core.proofs.Parts.WorldBests.{FollowsHand, FollowsHand-none, FollowsHand-refl, SeesBest-kept}
use Rattle.step_core.proofs.Parts.WorldCopies.{BestCopy-push, BestCopy-step, Copies-push, Copies-step}
use Rattle.step_core.proofs.Parts.NotedSteps.{KeepsNotes, KeepsNotes-kept, LeavesNotes-none, last_seen-same, shown-none}
use Rattle.step_core.proofs.Parts.Shifts.{IsShift, shift_at}
use Rattle.step_core.proofs.Parts.WorldNotes.{Empties-push, Notes-push, zero-read}
use Rattle.step_core.proofs.Parts.WorldHands.{Hands-views, IsWrittenFor}
use Rattle.step_core.proofs.Parts.WorldLinks.{LinkedTree-views}
use Rattle.step_core.proofs.Parts.WorldPairs.{HasFirst, HasFirst-none, HasTree, HasTree-none, Pairs-views}
use Rattle.step_core.proofs.Parts.WorldParts.{Agree-sym, agree-set, quotas-kept, SeesOn-same}
use Rattle.step_core.proofs.Parts.WorldRecords.{AreSeenLawfully-same}
use Rattle.step_core.proofs.Steps.WorldSteps.{live, tree}

-- The one view has seen the same words as the other, and has looked at none since.
pub record SeesAsMuch (view then : View) : Type 0 where
  pub run : then.run ≡ view.run
  pub seen : then.seen ≡ view.seen
  pub best : then.best ≡ view.best
  pub took : then.took ≡ view.took
  pub looked : length then.looked ≡ length view.looked
  pub found_zero : length then.found_zero ≡ length view.found_zero
  pub looks : (name : Word) → last_look then name ≤ last_look view name
  pub zero_looks : (name : Word) → last_zero then name ≤ last_zero view name
  pub steps : view.steps ≤ then.steps

-- A view is cut into two: no member is lost, and the hand stays on the left, with what it has noted. The right has looked at no word itself.
pub record IsCut (view left right : View) : Type 0 where
  pub crews : (w : ℕ) → times w left.crew + times w right.crew ≡ times w view.crew
  pub on_left : (i : ℕ) (member : Member) → get_elem? left.crew i ≡ some member → (j : ℕ) × (get_elem? view.crew j ≡ some member)
  pub on_right : (i : ℕ) (member : Member) → get_elem? right.crew i ≡ some member → (j : ℕ) × (get_elem? view.crew j ≡ some member)
  pub shares : share left + share right ≡ share view
  pub stays : share left ≡ 0 → share view ≡ 0
  pub hand : left.hand ≡ view.hand
  pub no_hand : right.hand ≡ None
  pub limits : (left.most ≡ view.most) × (right.most ≡ view.most)
  pub tables_left : SeesAsMuch view left
  pub tables_right : SeesAsMuch view right
  pub tree_left : SeesTree view → SeesTree left
  pub tree_right : SeesTree view → SeesTree right
  pub one_more : left.steps ≡ view.steps + 1
  pub same_notes : left.notes ≡ view.notes
  pub same_looks : (name : Word) → (last_look left name ≡ last_look view name) × (last_zero left name ≡ last_zero view name)
  pub no_notes : right.notes ≡ []
  pub no_looks : (name : Word) → (last_look right name ≡ 0) × (last_zero right name ≡ 0)

-- ---- what is seen as much

sees-same : (view then : View) → SeesAsMuch view then → sees then ≡ sees view
sees-same view then same = ap (λ r. words_of_run r then.seen) same.run ∙ ap (words_of_run view.run) same.seen

took_over-same : (view then : View) → SeesAsMuch view then → took_over then ≡ took_over view
took_over-same view then same = ap (λ r. words_of_run r then.took) same.run ∙ ap (words_of_run view.run) same.took

IsViewOf-same : (run : SharedRun) (view then : View) → SeesAsMuch view then → IsViewOf run view → IsViewOf run then
IsViewOf-same run view then same of_run = record {
  run_is = same.run ∙ of_run.run_is;
  seen = ap (λ l. length l) same.seen ∙ of_run.seen;
  looked = same.looked ∙ of_run.looked;
  found_zero = same.found_zero ∙ of_run.found_zero;
  looks = λ name. omega (arith, same.looks name, of_run.looks name, same.steps);
  zero_looks = λ name. omega (arith, same.zero_looks name, of_run.zero_looks name, same.steps);
}

IsMember-same : (run : SharedRun) (words : Words) (view then : View) (member : Member) → SeesAsMuch view then → IsMember run words view member
    → IsMember run words then member
IsMember-same run words view then member same own = record {
  turn = own.turn;
  own = λ k of. ap (λ s. s (RecordOf k)) (sees-same view then same) ∙ own.own k of;
}

limit_of-stays : (view left right : View) → IsCut view left right → limit_of view ≤ limit_of left
limit_of-stays view left right cut = by_test (share left == 0) refl (share view == 0) refl
  where
    by_test : (b : Bool) → (share left == 0) ≡ b → (d : Bool) → (share view == 0) ≡ d → cond d 0 view.most ≤ cond b 0 left.most
    by_test b e true f = omega arith
    by_test true e false f = (let no = sym (ap (λ n. n == 0) (cut.stays (eqb-true (share left) 0 e))) ∙ f in cc)
    by_test false e false f = omega (arith, cut.limits.0)

-- ---- a split of any kind

module _ (run : SharedRun) (words : Words) (views : List View) (id : ℕ) (view left right : View) (world : IsWorld run words views)
    (at : get_elem? views id ≡ some view) (own : view.run ≡ run) (cut : IsCut view left right) where
  abbrev rest : List View
  rest = set views id left

  agree_all : (then : View) → SeesAsMuch view then → (i : ℕ) (other : View) → get_elem? views i ≡ some other → Agree (sees then) (sees other)
  agree_all then same i other e = subst (λ s. Agree s (sees other)) (sym (sees-same view then same)) (world.seen.agree id view at i other e)

  with_left : EachView rest (λ one. EachView rest (λ other. Agree (sees one) (sees other)))
  with_left = agree-set views id left world.seen.agree (λ i other apart e. agree_all left cut.tables_left i other e)

  right_with : EachView rest (λ other. Agree (sees right) (sees other))
  right_with =
      each-set views id left (λ other. Agree (sees right) (sees other)) (λ i other apart e. agree_all right cut.tables_right i other e)
      (subst (λ s. Agree (sees right) s) (sym (sees-same view left cut.tables_left)) (agree_all right cut.tables_right id view at))

  -- of each view afterwards
  each : (has : View → Type 0) → EachView views has → has left → has right → EachView (rest ++ right ∷ []) has
  each has all one other = each-push rest right has (each-set views id left has (λ i u apart e. all i u e) one) other

  pub IsWorld-cut : IsWorld run words (rest ++ right ∷ [])
  IsWorld-cut =
      let of_run = live run words views id view world at own in
      record {
        run_is = world.run_is;
        of_run = each (λ u. (u ≡ spent) ⊎ IsViewOf run u) world.of_run (inr (IsViewOf-same run view left cut.tables_left of_run))
            (inr (IsViewOf-same run view right cut.tables_right of_run));
        numbers = record {
          quotas = quotas-kept run words words views (rest ++ right ∷ []) world.numbers (λ g within. refl)
              (le_trans (maximum-set limit_of views id view left at (limit_of-stays view left right cut)) (maximum-push limit_of rest right));
          each_once = λ k. omega (
            arith,
            world.numbers.each_once k,
            sum-set (λ u. once_if (holds k u.hand)) views id view left at,
            sum_by_push (λ u. once_if (holds k u.hand)) rest right,
            ap (λ h. once_if (holds k h)) cut.hand,
            ap (λ h. once_if (holds k h)) cut.no_hand,
          );
          limits = each (λ u. u.most ≤ length run.marks) world.numbers.limits (omega (arith, cut.limits.0, world.numbers.limits id view at))
              (omega (arith, cut.limits.1, world.numbers.limits id view at));
          packed = world.numbers.packed;
        };
        turns = record {
          workers = world.turns.workers;
          members = each (λ u. (i : ℕ) (member : Member) → get_elem? u.crew i ≡ some member → IsMember run words u member) world.turns.members
              (λ i member there. let from = cut.on_left i member there in IsMember-same run words view left member cut.tables_left
              (world.turns.members id view at from.0 member from.1))
              (λ i member there. let from = cut.on_right i member there in IsMember-same run words view right member cut.tables_right
              (world.turns.members id view at from.0 member from.1));
          in_one_crew = λ w. omega (
            arith,
            world.turns.in_one_crew w,
            sum-set (λ u. times w u.crew) views id view left at,
            sum_by_push (λ u. times w u.crew) rest right,
            cut.crews w,
          );
        };
        shares = record {
          add_up = omega (arith, world.shares.add_up, sum-set share views id view left at, sum_by_push share rest right, cut.shares);
          idle = each (λ u. share u ≡ 0 → u.hand ≡ None) world.shares.idle (λ none. cut.hand ∙ world.shares.idle id view at (cut.stays none))
              (λ none. cut.no_hand);
        };
        seen = record {
          behind = each (λ u. AreBehind (sees u) words) world.seen.behind
              (subst (λ s. AreBehind s words) (sym (sees-same view left cut.tables_left)) (world.seen.behind id view at))
              (subst (λ s. AreBehind s words) (sym (sees-same view right cut.tables_right)) (world.seen.behind id view at));
          took = each (λ u. AreBehind (took_over u) (sees u)) world.seen.took (took_as_much left cut.tables_left) (took_as_much right cut.tables_right);
          pairs = world.seen.pairs;
          pairs_seen = each (λ u. HaveWholePairs (sees u)) world.seen.pairs_seen
              (subst HaveWholePairs (sym (sees-same view left cut.tables_left)) (world.seen.pairs_seen id view at))
              (subst HaveWholePairs (sym (sees-same view right cut.tables_right)) (world.seen.pairs_seen id view at));
          agree = each-push rest right (λ one. EachView (rest ++ right ∷ []) (λ other. Agree (sees one) (sees other)))
              (λ i one e. each-push rest right (λ other. Agree (sees one) (sees other)) (with_left i one e)
              (Agree-sym (sees right) (sees one) (right_with i one e)))
              (each-push rest right (λ other. Agree (sees right) (sees other)) right_with (λ n written also same. refl));
        };
        links = LinkedTree-views run words views (rest ++ right ∷ []) world.links (hands_cut has_link) (hands_cut has_count);
        hands = Hands-views words views (rest ++ right ∷ []) world.hands
            (each (IsWrittenFor words) world.hands.written (λ hand held. world.hands.written id view at hand (sym cut.hand ∙ held))
            (λ hand held. let none = sym cut.no_hand ∙ held in cc)) (hands_cut has_point);
        trees = world.trees;
        pairs = Pairs-views run words views (rest ++ right ∷ []) world.pairs
            (each (HasFirst run words) world.pairs.first (λ hand held. world.pairs.first id view at hand (sym cut.hand ∙ held))
            (HasFirst-none run words right cut.no_hand))
            (each (HasTree words) world.pairs.tree (λ hand held. world.pairs.tree id view at hand (sym cut.hand ∙ held)) (HasTree-none words right cut.no_hand))
            (hands_cut has_first) (hands_cut has_tree);
        seen_pairs = each (λ u. u.run ≡ run → AreSeenLawfully (setup_in run) (tree_seen u) (state_in run words)) world.seen_pairs
            (λ of. pairs_same left cut.tables_left) (λ of. pairs_same right cut.tables_right);
        records = world.records;
        sights = each (λ u. u.run ≡ run → SeesTree u) world.sights (λ of. cut.tree_left (tree run words views id view world at own))
            (λ of. cut.tree_right (tree run words views id view world at own));
        copies = Copies-push run words rest right (Copies-step left_shift (SeesOn-same left_shift (sees-same view left cut.tables_left)
            (took_over-same view left cut.tables_left) world.seen.pairs) stays (λ name told. inl (refl, told)));
        best_copy = BestCopy-push run words rest right (BestCopy-step left_shift stays refl (λ saw. cut.tables_left.best ∙ saw));
        notes = Notes-push run words rest right cut.no_notes kept_left.notes (λ name. (cut.no_looks name).0) id left (at-set views id view left at)
            (cut.tables_left.run ∙ own) (λ name. last_seen-same left right name
            (ap (λ s. s name) (sees-same view right cut.tables_right ∙ sym (sees-same view left cut.tables_left)))
            (cut.tables_right.best ∙ sym cut.tables_left.best));
        empties = Empties-push run words rest right cut.no_notes kept_left.empties (λ name. (cut.no_looks name).1);
        best = world.best;
        bests = each (λ u. u.run ≡ run → SeesBest run words u) world.bests
            (λ of. best_same left cut.tables_left (subst (FollowsHand view.hand) (sym cut.hand) (FollowsHand-refl view.hand)))
            (λ of. best_same right cut.tables_right (subst (FollowsHand view.hand) (sym cut.no_hand) (FollowsHand-none view.hand)));
      }
    where
      left_shift : IsShift (shift_at run words views id view left words)
      left_shift = record {
        moment = record { world = world; at = at; own = own };
        of_run = IsViewOf-same run view left cut.tables_left (live run words views id view world at own);
        one_more = cut.one_more;
        go = AreBehind-refl words;
        best = omega arith;
      }

      -- the left one has noted what the whole one had, and knows of each word what it did
      kept_left : KeepsNotes (shift_at run words views id view left words)
      kept_left =
          KeepsNotes-kept left_shift (LeavesNotes-none left_shift cut.same_notes (λ name told. inl refl) (λ n seen. refl)
          (shown-none left_shift (λ name. (cut.same_looks name).0) (λ name. ap (λ s. s name) (sees-same view left cut.tables_left)) cut.tables_left.best))
          (λ n side. refl) (λ n side some_child. (cut.same_looks (ChildOf n side)).1)

      -- both know as much of the best word
      best_same : (then : View) → SeesAsMuch view then → FollowsHand view.hand then.hand → SeesBest run words then
      best_same then same follows =
          SeesBest-kept view then same.run (subst (AreBehind (sees view)) (sym (sees-same view then same)) (AreBehind-refl (sees view)))
          (tree run words views id view world at own) run words same.best follows (λ k. ap (λ s. s (RecordOf k)) (sees-same view then same))
          (world.bests id view at own)

      stays : 0 < share view → 0 < share left
      stays part = by_share (share left) refl
        where
          by_share : (n : ℕ) → share left ≡ n → 0 < n
          by_share zero none = absurd (omega (arith, cut.stays none, part))
          by_share (suc n) some_members = omega arith

      hands_cut : (test : Stage → Bool) (k : ℕ) → hands_at test k (rest ++ right ∷ []) ≡ hands_at test k views
      hands_cut test k =
          omega (
            arith,
            sum-set (λ u. once_if (holds_at test k u.hand)) views id view left at,
            sum_by_push (λ u. once_if (holds_at test k u.hand)) rest right,
            ap (λ h. once_if (holds_at test k h)) cut.hand,
            ap (λ h. once_if (holds_at test k h)) cut.no_hand,
          )

      pairs_same : (then : View) → SeesAsMuch view then → AreSeenLawfully (setup_in run) (tree_seen then) (state_in run words)
      pairs_same then same =
          AreSeenLawfully-same (setup_in run) (tree_seen view) (tree_seen then) (state_in run words)
          (λ n. ap (λ w. tree_of_word (w (TreeOf n))) (sees-same view then same)) (world.seen_pairs id view at own)

      took_as_much : (then : View) → SeesAsMuch view then → AreBehind (took_over then) (sees then)
      took_as_much then same =
          subst (λ t. AreBehind t (sees then)) (sym (took_over-same view then same))
          (subst (AreBehind (took_over view)) (sym (sees-same view then same)) (world.seen.took id view at))

-- ---- the two kinds

crews_parted : (w : ℕ) (crew : List Member) → times w (without_second crew) + times w (second_alone crew) ≡ times w crew
crews_parted w [] = refl
crews_parted w (member ∷ []) = omega arith
crews_parted w (member ∷ second ∷ crew) =
    omega (arith, times-cons member crew w, times-cons member (second ∷ crew) w, times-cons second crew w, times-cons second [] w)

pub stays_at : (crew : List Member) (i : ℕ) (member : Member) → get_elem? (without_second crew) i ≡ some member → (j : ℕ) × (get_elem? crew j ≡ some member)
stays_at [] i member e = (i, e)
stays_at (first ∷ []) i member e = (i, e)
stays_at (first ∷ second ∷ crew) zero member e = (0, e)
stays_at (first ∷ second ∷ crew) (suc i) member e = (suc (suc i), e)

pub goes_at : (crew : List Member) (i : ℕ) (member : Member) → get_elem? (second_alone crew) i ≡ some member → (j : ℕ) × (get_elem? crew j ≡ some member)
goes_at [] i member e = (i, e)
goes_at (first ∷ []) i member e = absurd (some-ne-none member (sym e))
goes_at (first ∷ second ∷ crew) zero member e = (1, e)
goes_at (first ∷ second ∷ crew) (suc i) member e = absurd (some-ne-none member (sym e))

shares_parted : (crew : List Member) → length (without_second crew) + length (second_alone crew) ≡ length crew
shares_parted [] = refl
shares_parted (first ∷ []) = omega arith
shares_parted (first ∷ second ∷ crew) = omega arith

stays_parted : (crew : List Member) → length (without_second crew) ≡ 0 → length crew ≡ 0
stays_parted [] e = refl
stays_parted (first ∷ []) e = e
stays_parted (first ∷ second ∷ crew) e = absurd (omega (arith, e))

-- a new view has looked at no word
none_looked : (view : View) (name : Word) → (last_look (unlooked view) name ≡ 0) × (last_zero (unlooked view) name ≡ 0)
none_looked view name = (zero-read (run_sizes view.run) (length view.looked) name, zero-read (run_sizes view.run) (length view.found_zero) name)

-- and has seen as much, whatever its crew
sees_as_much : (view : View) (crew : List Member) → SeesAsMuch view (record (unlooked view) { crew = crew; hand = None })
sees_as_much view crew = record {
  run = refl;
  seen = refl;
  best = refl;
  took = refl;
  looked = length-replicate (length view.looked) 0;
  found_zero = length-replicate (length view.found_zero) 0;
  looks = λ name. omega (arith, (none_looked view name).0);
  zero_looks = λ name. omega (arith, (none_looked view name).1);
  steps = omega arith;
}

-- one step more, with whatever crew
stays_as_much : (view : View) (crew : List Member) → SeesAsMuch view (record (stepped view) { crew = crew })
stays_as_much view crew = record {
  run = refl;
  seen = refl;
  best = refl;
  took = refl;
  looked = refl;
  found_zero = refl;
  looks = λ name. omega arith;
  zero_looks = λ name. omega arith;
  steps = omega arith;
}

pub IsCut-parted : (view : View) → IsCut view (parted view) (worker_apart view)
IsCut-parted view = record {
  crews = λ w. crews_parted w view.crew;
  on_left = stays_at view.crew;
  on_right = goes_at view.crew;
  shares = shares_parted view.crew;
  stays = stays_parted view.crew;
  hand = refl;
  no_hand = refl;
  limits = (refl, refl);
  tables_left = stays_as_much view (without_second view.crew);
  tables_right = sees_as_much view (second_alone view.crew);
  tree_left = SeesTree-parted view;
  tree_right = SeesTree-apart view;
  one_more = refl;
  same_notes = refl;
  same_looks = λ name. (refl, refl);
  no_notes = refl;
  no_looks = none_looked view;
}

pub IsCut-looker : (view : View) → IsCut view (stepped view) (looker view)
IsCut-looker view = record {
  crews = λ w. omega arith;
  on_left = λ i member e. (i, e);
  on_right = λ i member e. absurd (some-ne-none member (sym e));
  shares = omega arith;
  stays = λ e. e;
  hand = refl;
  no_hand = refl;
  limits = (refl, refl);
  tables_left = stays_as_much view view.crew;
  tables_right = sees_as_much view [];
  tree_left = SeesTree-stepped view;
  tree_right = SeesTree-looker view;
  one_more = refl;
  same_notes = refl;
  same_looks = λ name. (refl, refl);
  no_notes = refl;
  no_looks = none_looked view;
}
