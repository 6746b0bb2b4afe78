-- What a step of one view leaves of each part of the law of worlds.
use Rattle.step_core.proofs.Words.{◌≡◌, ◌≢◌, ◌+◌, ◌%◌, ◌<◌, ◌≤◌, ◌^◌, ◌∙◌, ◌⊎◌, ◌==◌, ℕ, Bool, true, false, List, length, set, Some, None, refl, sym, ap, subst}
use Rattle.step_core.proofs.Words.{inl, inr, arith, nat_lt, cond, is_some, some, get_elem?, cases_lt, le-ltb, is_claimed, quota_of, AreTurns, is_of_turn}
use Rattle.step_core.proofs.Words.{is_of_worker, once_if, turns_of, count-all, count-same, count-wider, IsCutAt-quota, record_at, AreBehind, HaveWholePairs}
use Rattle.step_core.proofs.Words.{Words, Counter, RecordOf, TreeOf, cost_in, outcome_in, record_in, record_of_word, AreBehind-trans, IsViewOf, holds, sees}
use Rattle.step_core.proofs.Words.{share, spent, times, took_over, Agree, EachView, IsMember, IsRecordWord, ClaimedMarks, SeenBehind, Shares, Turns, counters}
use Rattle.step_core.proofs.Words.{greatest_limit, is_recorded, limit_of, Member, SharedRun, View, AreBehind-refl, SeesTree, TreesSeen, Word, WritesWord}
use Rattle.step_core.proofs.Parts.ViewLists.{each-set, maximum-set}
use Rattle.step_core.proofs.Seen.Looks.{AreBehind-saw, AreBehind-seen, HaveWholePairs-saw, IsFair, IsFair-saw}
use Rattle.step_core.proofs.Parts.Shifts.{IsShift, Shift, each-later, sum-later, later_views}
use Rattle.step_core.proofs.Seen.SeenWords.{told-kept}

-- ---- records

-- the record words stay
abbrev pub KeepsRecords : Words → Words → Type 0
KeepsRecords before after = (k : ℕ) → after (RecordOf k) ≡ before (RecordOf k)

-- a record word that holds no record is 0
pub record_word-none : (word first : ℕ) → IsRecordWord word → record_of_word word first ≡ None → word ≡ 0
record_word-none word first (inl none) e = none
record_word-none word first (inr packed) e =
    let entry = packed.0 in
    let written : nat_lt word (2 ^ 63) ≡ false = le-ltb word (2 ^ 63) (omega (arith, packed.2)) in
    let some_record = sym (ap (λ b. cond b None (Some (record_in (outcome_in word) word first))) written) ∙ e in
    cc

module _ (before after : Words) (kept : KeepsRecords before after) where
  pub is_recorded-kept : (k : ℕ) → is_recorded after k ≡ is_recorded before k
  is_recorded-kept k = told-kept is_some (λ word first other. refl) before after k (kept k)

  worker_kept : (w k : ℕ) → is_of_worker w (record_at after k) ≡ is_of_worker w (record_at before k)
  worker_kept w k = told-kept (is_of_worker w) (λ word first other. refl) before after k (kept k)

  pub turns_of-kept : (limit w : ℕ) → turns_of (record_at after) limit w ≡ turns_of (record_at before) limit w
  turns_of-kept limit w = count-same (λ k. is_of_worker w (record_at after k)) (λ k. is_of_worker w (record_at before k)) limit (λ k low. worker_kept w k)

  pub AreTurns-kept : (limit : ℕ) → AreTurns limit (record_at before) → AreTurns limit (record_at after)
  AreTurns-kept limit turns = record {
    each = λ w t.
        count-same (λ k. is_of_turn w t (record_at after k)) (λ k. is_of_turn w t (record_at before k)) limit
        (λ k low. told-kept (is_of_turn w t) (λ word first other. refl) before after k (kept k))
        ∙ turns.each w t ∙ sym (ap (λ n. once_if (nat_lt t n)) (turns_of-kept limit w));
  }

  -- a member stays one, where the view still sees the records that it saw as they are
  pub IsMember-kept :
      (run : SharedRun) (view then : View) (member : Member)
      → ((k : ℕ) → sees view (RecordOf k) ≡ before (RecordOf k) → sees then (RecordOf k) ≡ before (RecordOf k))
      → IsMember run before view member → IsMember run after then member
  IsMember-kept run view then member seen own = record {
    turn = own.turn ∙ sym (turns_of-kept (length run.marks) member.worker);
    own = λ k of. seen k (own.own k (sym (worker_kept member.worker k) ∙ of)) ∙ sym (kept k);
  }

-- ---- numbers

-- a quota is at most its limit
pub quota-most : (strips g limit : ℕ) → quota_of strips g limit ≤ limit
quota-most strips g limit = omega (arith, count-wider (λ k. k % strips == g) (λ k. true) limit (λ k h. refl), count-all (λ k. true) limit (λ k low. refl))

-- a higher limit has no lower quota
pub quota-up : (strips g low high : ℕ) → g < strips → low ≤ high → quota_of strips g low ≤ quota_of strips g high
quota-up strips g low high within order =
    let first = IsCutAt-quota strips g low within in
    let later = IsCutAt-quota strips g high within in
    elim (cases_lt (quota_of strips g high) (quota_of strips g low)) [
      | inl less ↦ absurd (omega (later.below_quota (quota_of strips g high) (omega (arith, order, first.below_limit (quota_of strips g high) less)), arith))
      | inr enough ↦ enough
    ]

-- the quotas still bind where the counters stay and the limit does not fall
pub quotas-kept :
    (run : SharedRun) (before after : Words) (views later : List View) → ClaimedMarks run before views
    → ((g : ℕ) → g < run.strips → after (Counter g) ≡ before (Counter g)) → greatest_limit views ≤ greatest_limit later
    → (g : ℕ) → g < run.strips → after (Counter g) ≤ quota_of run.strips g (greatest_limit later)
quotas-kept run before after views later numbers same up g within =
    omega (arith, same g within, numbers.quotas g within, quota-up run.strips g (greatest_limit views) (greatest_limit later) within up)

-- the limit that a view binds by does not fall where its share stays and its limit does not fall
limit_of-up : (view then : View) → share then ≡ share view → view.most ≤ then.most → limit_of view ≤ limit_of then
limit_of-up view then same up = subst (λ n. limit_of view ≤ cond (n == 0) 0 then.most) (sym same) (by_test (share view == 0))
  where
    by_test : (b : Bool) → cond b 0 view.most ≤ cond b 0 then.most
    by_test true = omega arith
    by_test false = up

module _ {s : Shift} (is : IsShift s) where
  -- and so does the greatest not
  pub limit-up : share s.then ≡ share s.now.view → s.now.view.most ≤ s.then.most → greatest_limit s.now.views ≤ greatest_limit (later_views s)
  limit-up same up = maximum-set limit_of s.now.views s.now.id s.now.view s.then is.moment.at (limit_of-up s.now.view s.then same up)

  -- Of a step of one view it is asked that the quotas still bind, and that at each mark what is recorded or in its hand changes as what is
  -- claimed.
  pub ClaimedMarks-step :
      ((g : ℕ) → g < s.now.run.strips → s.after (Counter g) ≤ quota_of s.now.run.strips g (greatest_limit (later_views s)))
      → ((k : ℕ) → once_if (is_recorded s.after k) + once_if (holds k s.then.hand) + once_if (is_claimed s.now.run.strips (counters s.now.words) k)
      ≡ once_if (is_recorded s.now.words k) + once_if (holds k s.now.view.hand) + once_if (is_claimed s.now.run.strips (counters s.after) k))
      → s.then.most ≤ length s.now.run.marks → ((k : ℕ) → IsRecordWord (s.after (RecordOf k))) → ClaimedMarks s.now.run s.after (later_views s)
  ClaimedMarks-step quotas balance most packed = record {
    quotas = quotas;
    each_once = λ k. omega (arith, balance k, is.moment.world.numbers.each_once k, sum-later is (λ u. once_if (holds k u.hand)));
    limits = each-later is (λ u. u.most ≤ length s.now.run.marks) (λ i u apart. is.moment.world.numbers.limits i u) most;
    packed = packed;
  }

  -- a step that leaves the records and the crew
  pub Turns-step :
      KeepsRecords s.now.words s.after → s.then.crew ≡ s.now.view.crew
      → ((k : ℕ) → sees s.now.view (RecordOf k) ≡ s.now.words (RecordOf k) → sees s.then (RecordOf k) ≡ s.now.words (RecordOf k))
      → Turns s.now.run s.after (later_views s)
  Turns-step kept crew seen = record {
    workers = AreTurns-kept s.now.words s.after kept (length s.now.run.marks) is.moment.world.turns.workers;
    members = each-later is (λ u. (i : ℕ) (member : Member) → get_elem? u.crew i ≡ some member → IsMember s.now.run s.after u member)
        (λ j u apart e i member there.
        IsMember-kept s.now.words s.after kept s.now.run u u member (λ k h. h) (is.moment.world.turns.members j u e i member there))
        (λ i member there. IsMember-kept s.now.words s.after kept s.now.run s.now.view s.then member seen
        (is.moment.world.turns.members s.now.id s.now.view is.moment.at i member (subst (λ l. get_elem? l i ≡ some member) crew there)));
    in_one_crew = λ w. omega (arith, is.moment.world.turns.in_one_crew w, sum-later is (λ u. times w u.crew), ap (times w) crew);
  }

  pub Shares-step : share s.then ≡ share s.now.view → (share s.then ≡ 0 → s.then.hand ≡ None) → Shares s.now.run (later_views s)
  Shares-step same idle = record {
    add_up = omega (arith, is.moment.world.shares.add_up, sum-later is share, same);
    idle = each-later is (λ u. share u ≡ 0 → u.hand ≡ None) (λ i u apart. is.moment.world.shares.idle i u) idle;
  }

-- ---- seen

-- one that saw a node at the cost that it has now saw its tree word
pub Agree-now : (seen now : Words) → AreBehind seen now → Agree seen now
Agree-now seen now behind n written also same =
    elim (behind (TreeOf n)) [
      | inl none ↦ absurd (omega (arith, none, written))
      | inr falls ↦ elim falls [
        | inl is ↦ is
        | inr fell ↦ absurd (omega (fell.1, same, arith))
      ]
    ]

pub Agree-sym : (one other : Words) → Agree one other → Agree other one
Agree-sym one other agree n written also same = sym (agree n also written (sym same))

-- what is fair agrees with all that agreed before
pub Agree-fair : (before now after other : Words) → AreBehind other now → Agree before other → IsFair before now after → Agree after other
Agree-fair before now after other behind agree fair n written also same =
    elim (fair n) [
      | inl was ↦ was ∙ agree n (subst (λ w. 2 ^ 63 ≤ w) was written) also (ap cost_in (sym was) ∙ same)
      | inr is ↦ is ∙ sym (Agree-now other now behind n also (subst (λ w. 2 ^ 63 ≤ w) is written) (sym (ap cost_in (sym is) ∙ same)))
    ]

-- of all views, where one view is another now
pub agree-set :
    (views : List View) (id : ℕ) (then : View) → EachView views (λ one. EachView views (λ other. Agree (sees one) (sees other)))
    → ((i : ℕ) (other : View) → i ≢ id → get_elem? views i ≡ some other → Agree (sees then) (sees other))
    → EachView (set views id then) (λ one. EachView (set views id then) (λ other. Agree (sees one) (sees other)))
agree-set views id then agree own =
    each-set views id then (λ one. EachView (set views id then) (λ other. Agree (sees one) (sees other)))
    (λ i one apart e. each-set views id then (λ other. Agree (sees one) (sees other)) (λ j other apart_too f. agree i one e j other f)
    (Agree-sym (sees then) (sees one) (own i one apart e))) (each-set views id then (λ other. Agree (sees then) (sees other)) own (λ n written also same. refl))

-- What the view sees goes on, and may become what is so. Each tree word that it sees is one that it saw, or the word now.
pub record SeesOn (s : Shift) : Type 0 where
  pub took : took_over s.then ≡ took_over s.now.view
  pub behind : AreBehind (sees s.then) s.after
  pub more : AreBehind (sees s.now.view) (sees s.then)
  pub pairs : HaveWholePairs s.after
  pub whole : HaveWholePairs (sees s.then)
  pub fair : IsFair (sees s.now.view) s.after (sees s.then)

module _ {s : Shift} (is : IsShift s) where
  behind_after : (i : ℕ) (u : View) → get_elem? s.now.views i ≡ some u → AreBehind (sees u) s.after
  behind_after i u e = AreBehind-trans (sees u) s.now.words s.after (is.moment.world.seen.behind i u e) is.go

  -- so it is if it sees what it saw,
  pub SeesOn-same : sees s.then ≡ sees s.now.view → took_over s.then ≡ took_over s.now.view → HaveWholePairs s.after → SeesOn s
  SeesOn-same same took pairs = record {
    took = took;
    behind = subst (λ w. AreBehind w s.after) (sym same) (behind_after s.now.id s.now.view is.moment.at);
    more = subst (AreBehind (sees s.now.view)) (sym same) (AreBehind-refl (sees s.now.view));
    pairs = pairs;
    whole = subst HaveWholePairs (sym same) (is.moment.world.seen.pairs_seen s.now.id s.now.view is.moment.at);
    fair = λ n. inl (ap (λ w. w (TreeOf n)) same);
  }

  -- or one word as it is then
  pub SeesOn-saw : (name : Word) (x : ℕ) → WritesWord name x (sees s.now.view) (sees s.then) → s.after name ≡ x → took_over s.then ≡ took_over s.now.view
      → HaveWholePairs s.after → SeesOn s
  SeesOn-saw name x saw here took pairs =
      let behind = behind_after s.now.id s.now.view is.moment.at in
      record {
        took = took;
        behind = AreBehind-saw name x (sees s.now.view) (sees s.then) s.after saw here behind;
        more = AreBehind-seen name x (sees s.now.view) (sees s.then) s.after saw here behind;
        pairs = pairs;
        whole = HaveWholePairs-saw name x (sees s.now.view) (sees s.then) s.after saw here behind
            (is.moment.world.seen.pairs_seen s.now.id s.now.view is.moment.at) pairs;
        fair = IsFair-saw name x (sees s.now.view) (sees s.then) s.after saw here behind;
      }

  pub SeenBehind-step : SeesOn s → SeenBehind s.after (later_views s)
  SeenBehind-step on = record {
    behind = each-later is (λ u. AreBehind (sees u) s.after) (λ i u apart. behind_after i u) on.behind;
    took = each-later is (λ u. AreBehind (took_over u) (sees u)) (λ i u apart. is.moment.world.seen.took i u)
        (subst (λ t. AreBehind t (sees s.then)) (sym on.took) (AreBehind-trans (took_over s.now.view) (sees s.now.view) (sees s.then)
        (is.moment.world.seen.took s.now.id s.now.view is.moment.at) on.more));
    pairs = on.pairs;
    pairs_seen = each-later is (λ u. HaveWholePairs (sees u)) (λ i u apart. is.moment.world.seen.pairs_seen i u) on.whole;
    agree = agree-set s.now.views s.now.id s.then is.moment.world.seen.agree (λ i other apart e. Agree-fair (sees s.now.view) s.after (sees s.then)
        (sees other) (behind_after i other e) (is.moment.world.seen.agree s.now.id s.now.view is.moment.at i other e) on.fair);
  }

  -- ---- views of the run

  pub of_run-step : EachView (later_views s) (λ u. (u ≡ spent) ⊎ IsViewOf s.now.run u)
  of_run-step = each-later is (λ u. (u ≡ spent) ⊎ IsViewOf s.now.run u) (λ i u apart. is.moment.world.of_run i u) (inr is.of_run)

  -- and the other views see their trees as before
  pub TreesSeen-step : SeesTree s.then → TreesSeen s.now.run (later_views s)
  TreesSeen-step then = each-later is (λ u. u.run ≡ s.now.run → SeesTree u) (λ i u apart. is.moment.world.sights i u) (λ of. then)
