-- Each fact of the closed law has one proof at most, so a value may keep it as it is.
use Rattle.plan_model.proofs.Words.{ℕ, List, props, Point, Record, FirstHanging, Reached, NewNode, SameNode, NoWay, Ending, Steered, SkippedBy, ending_of}
use Rattle.plan_model.proofs.Words.{IsClear, ConfigurationSpace, Rational, TreeState, KeepsOrder, IsPlacedLawfully, ReachesLawfully, HasLawfulEnding}
use Rattle.plan_model.proofs.Words.{IsLawfulRecord, IsClosed, Setup}

IsClear-prop : (space : ConfigurationSpace) (q : Rational) → IsProp (IsClear space q)
IsClear-prop space q = hlevel props

KeepsOrder-prop : (setup : Setup) (state : TreeState) → IsProp (KeepsOrder setup state)
KeepsOrder-prop setup state = hlevel (props, IsClear-prop)

IsPlacedLawfully-prop : (setup : Setup) (state : TreeState) (k : ℕ) (entry : Record) (m : ℕ) (first : FirstHanging) (p : Point)
    → IsProp (IsPlacedLawfully setup state k entry m first p)
IsPlacedLawfully-prop setup state k entry m first p = hlevel (props, IsClear-prop)

ReachesLawfully-prop : (setup : Setup) (state : TreeState) (k : ℕ) (entry : Record) (m : ℕ) (reached : Reached) (p : Point)
    → IsProp (ReachesLawfully setup state k entry m reached p)
ReachesLawfully-prop setup state k entry m (NewNode first) p = IsPlacedLawfully-prop setup state k entry m first p
ReachesLawfully-prop setup state k entry m (SameNode j) p = hlevel props
ReachesLawfully-prop setup state k entry m NoWay p = hlevel props

HasLawfulEnding-prop : (setup : Setup) (state : TreeState) (k : ℕ) (mark : Point) (entry : Record) (ending : Ending)
    → IsProp (HasLawfulEnding setup state k mark entry ending)
HasLawfulEnding-prop setup state k mark entry (Steered m reached) = hlevel (props, ReachesLawfully-prop)
HasLawfulEnding-prop setup state k mark entry (SkippedBy g) = hlevel props

IsLawfulRecord-prop : (setup : Setup) (state : TreeState) (k : ℕ) (mark : Point) (entry : Record) → IsProp (IsLawfulRecord setup state k mark entry)
IsLawfulRecord-prop setup state k mark entry = HasLawfulEnding-prop setup state k mark entry (ending_of entry)

-- The closed law has one proof at most.
pub IsClosed-prop : (setup : Setup) (marks : List Point) (limit : ℕ) (state : TreeState) → IsProp (IsClosed setup marks limit state)
IsClosed-prop setup marks limit state = hlevel (props, KeepsOrder-prop, IsLawfulRecord-prop)
