-- Runs that are given by equal lists are closed together.
use Rattle.grown_runs.proofs.Words.{◌≡◌, Option, List, length, sym, ap, subst, Point, Record, Knot, IsClosed, Setup, state_of_lists}

pub IsClosed-same_lists :
    (setup of_setup : Setup) (marks points : List Point) (knots nodes : List (Option Knot)) (records entries : List Record)
    → setup ≡ of_setup → marks ≡ points → knots ≡ nodes → records ≡ entries
    → IsClosed of_setup points (length entries) (state_of_lists nodes entries)
    → IsClosed setup marks (length records) (state_of_lists knots records)
IsClosed-same_lists setup of_setup marks points knots nodes records entries same_setup same_marks same_knots same_records closed =
    let state : state_of_lists nodes entries ≡ state_of_lists knots records = λ t. state_of_lists (sym same_knots t) (sym same_records t) in
    subst (λ s. IsClosed s marks (length records) (state_of_lists knots records)) (sym same_setup)
    (subst (λ ps. IsClosed of_setup ps (length records) (state_of_lists knots records)) (sym same_marks)
    (subst (λ limit. IsClosed of_setup points limit (state_of_lists knots records)) (ap length (sym same_records))
    (subst (IsClosed of_setup points (length entries)) state closed)))
