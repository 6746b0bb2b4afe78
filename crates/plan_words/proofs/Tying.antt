-- What a pass keeps beside its view, after steps that the law tells nothing of, and the word that it stores for its turn.
use Rattle.plan_words.proofs.Words.{◌≡◌, ℕ, ◌+◌, ◌<◌, ◌≤◌, List, [], ◌∷◌, length, Option, Some, None, refl, sym, ap, ◌∙◌, subst, arith, le_trans, IfSome}
use Rattle.plan_words.proofs.Words.{IsSome, is_some, length-replicate, same_Some, MOST_MARKS, MOST_WORKERS, Record, sizes_in, Word, FitsWord, BelongsTo, GoesOn}
use Rattle.plan_words.proofs.Words.{HasRoom, IsTied, MayClaim, PassState, SharedState, first_member, turn_of, worker_of, IsLawfulView, finished_at, looker}
use Rattle.plan_words.proofs.Words.{one_turn_more, parted, second_alone, without_second, worker_apart, MayRecord, IsSeenPair, IsViewOf, last_look, last_zero}
use Rattle.plan_words.proofs.Words.{run_sizes, spent, IsLater-stepped, SeesTree-apart, SeesTree-looker, SeesTree-parted, SeesTree-stepped, zero-read, goes_at}
use Rattle.plan_words.proofs.Words.{stays_at, Hand, Member, SharedRun, View, WordPlaces}
use mathlib.Core.Option.{some, some-ne-none}
use lib.ListN.{get_elem?}
use Rattle.step_core.proofs.Common.{stepped}
use Rattle.plan_words.proofs.GoingOn.{BelongsTo-later}
use Rattle.plan_words.proofs.FittingRecords.{last_fits, nearest_fits}

-- ---- a pass with a mark in hand

-- it has a worker
pub record HasMember (view : View) : Type 0 where
  pub member : Member
  pub crew : List Member
  pub crew_is : view.crew ≡ member ∷ crew

pub HasMember-held : (view : View) (hand : Hand) → IsLawfulView view → view.hand ≡ Some hand → HasMember view
HasMember-held view hand lawful held = by_crew view.crew refl
  where
    by_crew : (crew : List Member) → view.crew ≡ crew → HasMember view
    by_crew [] e = (let none = sym held ∙ lawful.idle (ap (λ l. length l) e) in cc)
    by_crew (member ∷ crew) e = record { member = member; crew = crew; crew_is = e }

-- whose turn is below the number of marks
pub turn_fits : (view : View) (hand : Hand) (member : Option Member) → IsLawfulView view → view.hand ≡ Some hand → member ≡ first_member view.crew
    → IfSome member (λ worker. worker.turn < MOST_MARKS)
turn_fits view hand member lawful held is =
    subst (λ o. IfSome o (λ worker. worker.turn < MOST_MARKS)) (sym is) (by_crew view.crew refl)
  where
    by_crew : (crew : List Member) → view.crew ≡ crew → IfSome (first_member crew) (λ worker. worker.turn < MOST_MARKS)
    by_crew [] e = tt
    by_crew (worker ∷ crew) e = omega (arith, lawful.turn hand 0 worker held (ap (λ l. get_elem? l 0) e), lawful.run.marks)

-- its worker and its turn are within their limits
first_at : (member : Member) (crew : List Member) → Some member ≡ first_member crew → get_elem? crew 0 ≡ some member
first_at member [] e = cc
first_at member (worker ∷ crew) e = ap some (sym (same_Some member worker e))

pub worker_few :
    (view : View) (member : Member) → IsLawfulView view → Some member ≡ first_member view.crew
    → (member.worker < view.run.workers) × (member.worker < MOST_WORKERS)
worker_few view member lawful is =
    let low = lawful.worker 0 member (first_at member view.crew is) in (low, omega (arith, low, lawful.run.workers.1))

pub turn_few : (view : View) (member : Member) → IsLawfulView view → Some member ≡ first_member view.crew → IsSome view.hand → member.turn < MOST_MARKS
turn_few view member lawful is held = by_hand view.hand refl
  where
    by_hand : (o : Option Hand) → view.hand ≡ o → member.turn < MOST_MARKS
    by_hand None e = (let none = sym held ∙ ap is_some e in cc)
    by_hand (Some own) e = omega (arith, lawful.turn own 0 member e (first_at member view.crew is), lawful.run.marks)

-- its record fits a word
pub entry_fits :
    (view : View) (hand : Hand) (entry : Record) → IsLawfulView view → view.hand ≡ Some hand → entry.worker ≡ worker_of view.crew
    → entry.turn ≡ turn_of view.crew → MayRecord view hand entry → FitsWord entry
entry_fits view hand entry lawful held worker turn may =
    let has = HasMember-held view hand lawful held in
    let first = ap (λ l. get_elem? l 0) has.crew_is in
    record {
      worker = omega (arith, worker, ap worker_of has.crew_is, lawful.worker 0 has.member first, lawful.run.workers.1);
      turn = omega (arith, turn, ap turn_of has.crew_is, lawful.turn hand 0 has.member held first, lawful.run.marks);
      nearest = nearest_fits view hand entry lawful may;
      last = last_fits view hand entry lawful may;
    }

-- once its record is stored, it may claim again
pub MayClaim-finished :
    (shared : SharedState) (pass after : PassState) (place word : ℕ) (hand : Hand) → BelongsTo pass shared → pass.view.hand ≡ Some hand
    → after.table ≡ pass.table → GoesOn pass.view after.view → after.view ≡ finished_at pass.view place word → MayClaim shared after
MayClaim-finished shared pass after place word hand belongs held same goes_on is = record {
  belongs = BelongsTo-later shared pass after same goes_on belongs;
  part =
      let has = HasMember-held pass.view hand belongs.lawful held in
      let crew = ap (λ v. v.crew) is ∙ ap one_turn_more has.crew_is in
      subst (λ l. 0 < length l) (sym crew) (omega arith);
  idle = ap (λ v. v.hand) is;
}

-- ---- splits

-- a view with the same tables, after no fewer steps
IsViewOf-later :
    (view then : View) → IsViewOf view.run view → view.steps ≤ then.steps → then.run ≡ view.run → then.seen ≡ view.seen
    → length then.looked ≡ length view.looked → ((name : Word) → last_look then name ≤ last_look view name)
    → length then.found_zero ≡ length view.found_zero → ((name : Word) → last_zero then name ≤ last_zero view name) → IsViewOf then.run then
IsViewOf-later view then of_run order run_is seen looked looks found_zero zero_looks = subst (λ r. IsViewOf r then) (sym run_is) (record {
  run_is = run_is;
  seen = ap (λ l. length l) seen ∙ of_run.seen;
  looked = looked ∙ of_run.looked;
  found_zero = found_zero ∙ of_run.found_zero;
  looks = λ name. omega (arith, looks name, of_run.looks name, order);
  zero_looks = λ name. omega (arith, zero_looks name, of_run.zero_looks name, order);
})

-- what is said of seen pairs is said of the run and of what is seen alone
abbrev bare : View → View
bare view = record spent { run = view.run; seen = view.seen }

IsSeenPair-bare : (view : View) (n : ℕ) → IsSeenPair view n → IsSeenPair (bare view) n
IsSeenPair-bare view n pair =
    record { low = pair.low; within = pair.within; start = pair.start; other = pair.other; edge = pair.edge; first = pair.first }

IsSeenPair-again : (view then : View) (n : ℕ) → bare view ≡ bare then → IsSeenPair view n → IsSeenPair then n
IsSeenPair-again view then n same pair =
    let own = subst (λ v. IsSeenPair v n) same (IsSeenPair-bare view n pair) in
    record { low = own.low; within = own.within; start = own.start; other = own.other; edge = own.edge; first = own.first }

IsLawfulView-stepped : (view : View) → IsLawfulView view → IsLawfulView (stepped view)
IsLawfulView-stepped view lawful = record {
  run = lawful.run;
  of_run = IsViewOf-later view (stepped view) lawful.of_run (omega arith) refl refl refl (λ name. omega arith) refl (λ name. omega arith);
  most = lawful.most;
  crew = lawful.crew;
  idle = lawful.idle;
  mark = lawful.mark;
  worker = lawful.worker;
  turn = lawful.turn;
  own_turn = lawful.own_turn;
  took = lawful.took;
  tree = SeesTree-stepped view lawful.tree;
  ways = lawful.ways;
  distinct = lawful.distinct;
  within = lawful.within;
  unseen = lawful.unseen;
  start = lawful.start;
  pair_fits = lawful.pair_fits;
  pairs = λ n written. IsSeenPair-again view (stepped view) n refl (lawful.pairs n written);
  count = lawful.count;
  counter = lawful.counter;
  best = lawful.best;
  best_node = lawful.best_node;
  taken = lawful.taken;
  order = lawful.order;
}

-- a split leaves the pass as it is, one step later
pub IsTied-stepped : (view : View) (member : Option Member) (hand : Option Hand) → IsTied view member hand → IsTied (stepped view) member hand
IsTied-stepped view member hand tied = record {
  member_is = tied.member_is;
  hand_is = tied.hand_is;
  lawful = IsLawfulView-stepped view tied.lawful;
}

pub GoesOn-stepped : (view : View) → IsLawfulView view → GoesOn view (stepped view)
GoesOn-stepped view lawful = record { was_lawful = lawful; later = IsLater-stepped view; lawful = IsLawfulView-stepped view lawful }

IsLawfulView-looker : (view : View) → IsLawfulView view → IsLawfulView (looker view)
IsLawfulView-looker view lawful = record {
  run = lawful.run;
  of_run = IsViewOf-later view (looker view) lawful.of_run (omega arith) refl refl
      (length-replicate (length view.looked) 0) (λ name. omega (arith, zero-read (run_sizes view.run) (length view.looked) name))
      (length-replicate (length view.found_zero) 0)
      (λ name. omega (arith, zero-read (run_sizes view.run) (length view.found_zero) name));
  most = lawful.most;
  crew = omega arith;
  idle = λ none. refl;
  mark = λ hand held. cc;
  worker = λ i member e. absurd (some-ne-none member (sym e));
  turn = λ hand i member held e. cc;
  own_turn = λ i member e. absurd (some-ne-none member (sym e));
  took = lawful.took;
  tree = SeesTree-looker view lawful.tree;
  ways = lawful.ways;
  distinct = lawful.distinct;
  within = lawful.within;
  unseen = λ hand held. cc;
  start = lawful.start;
  pair_fits = λ hand held. cc;
  pairs = λ n written. IsSeenPair-again view (looker view) n refl (lawful.pairs n written);
  count = lawful.count;
  counter = lawful.counter;
  best = lawful.best;
  best_node = lawful.best_node;
  taken = λ hand word held has. cc;
  order = λ all. absurd (omega (arith, all, lawful.run.workers.0));
}

pub IsTied-looker : (view : View) → IsLawfulView view → IsTied (looker view) None None
IsTied-looker view lawful = record { member_is = refl; hand_is = refl; lawful = IsLawfulView-looker view lawful }

-- lists with room for one more than there are marks have room for each node
pub HasRoom-new :
    (places : WordPlaces) (run own : SharedRun) (nodes for_spots for_near for_around for_waiting : ℕ) → sizes_in places ≡ run_sizes run → own ≡ run
    → nodes ≡ (sizes_in places).marks + 1 → (nodes < for_spots) × (nodes ≤ for_near) × (nodes ≤ for_around) × (for_waiting ≡ nodes)
    → HasRoom own for_spots for_near for_around for_waiting
HasRoom-new places run own nodes for_spots for_near for_around for_waiting same own_is nodes_is (spots, near, around, waiting) =
    let marks : length own.marks + 1 ≡ nodes = ap (λ r. length r.marks + 1) own_is ∙ sym (ap (λ s. s.marks + 1) same) ∙ sym nodes_is in
    record {
      spots = omega (arith, marks, spots);
      near = omega (arith, marks, near);
      around = omega (arith, marks, around);
      waiting = omega (arith, marks, waiting);
    }

-- and keep it for the same run
pub HasRoom-kept :
    (run own : SharedRun) (for_spots for_near for_around for_waiting : ℕ) → own ≡ run → HasRoom run for_spots for_near for_around for_waiting
    → HasRoom own for_spots for_near for_around for_waiting
HasRoom-kept run own for_spots for_near for_around for_waiting same room = subst (λ r. HasRoom r for_spots for_near for_around for_waiting) (sym same) room

-- the first of the crew stays
first_stays : (crew : List Member) → first_member (without_second crew) ≡ first_member crew
first_stays [] = refl
first_stays (member ∷ []) = refl
first_stays (member ∷ second ∷ crew) = refl

none_left : (crew : List Member) → length (without_second crew) ≡ 0 → length crew ≡ 0
none_left [] e = refl
none_left (member ∷ []) e = e
none_left (member ∷ second ∷ crew) e = absurd (omega (arith, e))

fewer_left : (crew : List Member) → length (without_second crew) ≤ length crew
fewer_left [] = omega arith
fewer_left (member ∷ []) = omega arith
fewer_left (member ∷ second ∷ crew) = omega arith

pub IsTied-parted : (view : View) (member : Option Member) (hand : Option Hand) → IsTied view member hand → IsTied (parted view) member hand
IsTied-parted view member hand tied =
    let lawful = tied.lawful in
    record {
      member_is = tied.member_is ∙ sym (first_stays view.crew);
      hand_is = tied.hand_is;
      lawful = record {
        run = lawful.run;
        of_run = IsViewOf-later view (parted view) lawful.of_run (omega arith) refl refl refl (λ name. omega arith) refl (λ name. omega arith);
        most = lawful.most;
        crew = le_trans (fewer_left view.crew) lawful.crew;
        idle = λ none. lawful.idle (none_left view.crew none);
        mark = lawful.mark;
        worker = λ i mate e. let from = stays_at view.crew i mate e in lawful.worker from.0 mate from.1;
        turn = λ own i mate held e. let from = stays_at view.crew i mate e in lawful.turn own from.0 mate held from.1;
        own_turn = λ i mate e. let from = stays_at view.crew i mate e in lawful.own_turn from.0 mate from.1;
        took = lawful.took;
        tree = SeesTree-parted view lawful.tree;
        ways = lawful.ways;
        distinct = lawful.distinct;
        within = lawful.within;
        unseen = lawful.unseen;
        start = lawful.start;
        pair_fits = lawful.pair_fits;
        pairs = λ n written. IsSeenPair-again view (parted view) n refl (lawful.pairs n written);
        count = lawful.count;
        counter = lawful.counter;
        best = lawful.best;
        best_node = lawful.best_node;
        taken = lawful.taken;
        order = λ all. lawful.order (omega (arith, all, fewer_left view.crew, lawful.crew));
      };
    }

-- a second is one of two at least
two_at_least : (crew : List Member) (member : Member) → second_alone crew ≡ member ∷ [] → 2 ≤ length crew
two_at_least [] member e = cc
two_at_least (mate ∷ []) member e = cc
two_at_least (mate ∷ second ∷ crew) member e = omega arith

pub IsTied-apart : (view : View) (member : Member) → IsLawfulView view → second_alone view.crew ≡ member ∷ [] → IsTied (worker_apart view) (Some member) None
IsTied-apart view member lawful second = record {
  member_is = sym (ap first_member second);
  hand_is = refl;
  lawful = record {
    run = lawful.run;
    of_run = IsViewOf-later view (worker_apart view) lawful.of_run (omega arith) refl refl
        (length-replicate (length view.looked) 0) (λ name. omega (arith, zero-read (run_sizes view.run) (length view.looked) name))
        (length-replicate (length view.found_zero) 0)
        (λ name. omega (arith, zero-read (run_sizes view.run) (length view.found_zero) name));
    most = lawful.most;
    crew = omega (arith, ap (λ l. length l) second, lawful.run.workers.0);
    idle = λ none. refl;
    mark = λ hand held. cc;
    worker = λ i mate e. let from = goes_at view.crew i mate e in lawful.worker from.0 mate from.1;
    turn = λ hand i mate held e. cc;
    own_turn = λ i mate e. let from = goes_at view.crew i mate e in lawful.own_turn from.0 mate from.1;
    took = lawful.took;
    tree = SeesTree-apart view lawful.tree;
    ways = lawful.ways;
    distinct = lawful.distinct;
    within = lawful.within;
    unseen = λ hand held. cc;
    start = lawful.start;
    pair_fits = λ hand held. cc;
    pairs = λ n written. IsSeenPair-again view (worker_apart view) n refl (lawful.pairs n written);
    count = lawful.count;
    counter = lawful.counter;
    best = lawful.best;
    best_node = lawful.best_node;
    taken = λ hand word held has. cc;
    order = λ all. absurd (omega (arith, all, ap (λ l. length l) second, two_at_least view.crew member second, lawful.crew));
  };
}
