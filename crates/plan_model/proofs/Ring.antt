-- Equations between whole numbers, shown on natural numbers: a term is read as a difference, and its products multiplied out.
use Rattle.plan_model.proofs.Words.{◌≡◌, ℕ, ◌+◌, ◌*◌, ap, refl, arith, ℤ, neg_ℤ, ◌+ℤ◌, ◌-ℤ◌, ◌*ℤ◌, ints}
use borrow.Author.Differences.{up, down, same_in, product_is, sum_is_lem}

-- the number as the difference of two others
pub record Read (z : ℤ) : Type 0 where
  pub gain : ℕ
  pub loss : ℕ
  pub is : up z + loss ≡ gain + down z

pub var_is : (z : ℤ) → up z + down z ≡ up z + down z
var_is z = refl

abbrev pub var : (z : ℤ) → Read z
var z = record { gain = up z; loss = down z; is = var_is z }

pub plus_is : (x y : ℤ) (p : Read x) (q : Read y) → up (x +ℤ y) + (p.loss + q.loss) ≡ (p.gain + q.gain) + down (x +ℤ y)
plus_is x y p q = omega (arith, p.is, q.is, sum_is_lem x y)

abbrev pub plus : {x y : ℤ} → Read x → Read y → Read (x +ℤ y)
plus {x} {y} p q = record { gain = p.gain + q.gain; loss = p.loss + q.loss; is = plus_is x y p q }

pub minus_is : (x y : ℤ) (p : Read x) (q : Read y) → up (x -ℤ y) + (p.loss + q.gain) ≡ (p.gain + q.loss) + down (x -ℤ y)
minus_is x y p q = omega (arith, ints, p.is, q.is)

abbrev pub minus : {x y : ℤ} → Read x → Read y → Read (x -ℤ y)
minus {x} {y} p q = record { gain = p.gain + q.loss; loss = p.loss + q.gain; is = minus_is x y p q }

pub opposite_is : (x : ℤ) (p : Read x) → up (neg_ℤ x) + p.gain ≡ p.loss + down (neg_ℤ x)
opposite_is x p = omega (arith, ints, p.is)

abbrev pub opposite : {x : ℤ} → Read x → Read (neg_ℤ x)
opposite {x} p = record { gain = p.loss; loss = p.gain; is = opposite_is x p }

product : (u v a b w z c d : ℕ) → u + b ≡ a + v → w + d ≡ c + z → (u * w + v * z) + (a * d + b * c) ≡ (a * c + b * d) + (u * z + v * w)
product u v a b w z c d e f =
    let r = ap (λ n. n * w) e in
    let s = ap (λ n. n * z) e in
    let t = ap (λ n. a * n) f in
    let o = ap (λ n. b * n) f in
    omega arith

pub times_is : (x y : ℤ) (p : Read x) (q : Read y) → up (x *ℤ y) + (p.gain * q.loss + p.loss * q.gain) ≡ (p.gain * q.gain + p.loss * q.loss) + down (x *ℤ y)
times_is x y p q =
    omega (arith, product_is x y, product (up x) (down x) p.gain p.loss (up y) (down y) q.gain q.loss p.is q.is)

abbrev pub times : {x y : ℤ} → Read x → Read y → Read (x *ℤ y)
times {x} {y} p q =
    record {
      gain = p.gain * q.gain + p.loss * q.loss;
      loss = p.gain * q.loss + p.loss * q.gain;
      is = times_is x y p q;
    }

-- two terms with the same difference are equal
pub same : {x y : ℤ} (p : Read x) (q : Read y) → p.gain + q.loss ≡ q.gain + p.loss → x ≡ y
same {x} {y} p q e = same_in x y (omega (arith, p.is, q.is))
