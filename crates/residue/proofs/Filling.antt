-- The loop of `Reciprocals::new`: the table is filled from the front, four entries a turn, one for each number of a pair and of the pair of their opposites.
--   Has t k               the table t has an entry for k: one that is not zero
--   Right p t             each entry is a reciprocal modulo p
--   TableFilled p t a     so it is, with each number its reciprocal has an entry, and the numbers from 1 to a - 1 have entries
--   reciprocals-none      it holds at a = 1 for a table of zeros
--   filled-none-below     a number without an entry has no reciprocal below it
--   pair-stored           a pair may be stored at any time
--   reciprocals-more      it holds at a + 1 once the reciprocals of a and of its reciprocal are stored
--   reciprocal-opposite   the opposite of the reciprocal of a is the reciprocal of the opposite of a
--   opposites-stored      the pair of the opposites may be stored too
--   filled-over           it holds at a + 1 if a has an entry
--   filled-stop           if a is p, the table serves for p
use mathlib.Core.Path.{◌≡◌, sym, ◌∙◌, subst, ap}
use mathlib.Core.Logic.{⊎_elim, by_cases, ◌≢◌}
use mathlib.Core.List.{List}
use Prim.Native.Nat.{ℕ, ◌+◌, ◌-◌, ◌*◌, ◌%◌, ◌≤◌, ◌<◌}
use native.Mathlib.Nat.{eq-or-lt_of_le, mul-add-mod_self_right}
use native.Mathlib.Decide.{dec_lt, ℕ_discrete}
use native.Mathlib.Omega.{arith}
use lib.ListN.{length, get_or, set, replicate, length-set, length-replicate, get_or-replicate, get_or-eq_default}
use lib.Seq.{get_or-set_same, get_or-set_other}
use Rattle.residue.specs.Prime.{Modulus, largest_modulus}
use Rattle.residue.specs.Modular.{product_mod}
use Rattle.residue.specs.Reciprocals.{Serves}
use Rattle.residue.proofs.ModularLaws.{product_mod-comm}
use Rattle.residue.proofs.Inverses.{Reciprocal, reciprocal-unique}
use Rattle.residue.proofs.Counting.{reciprocal-positive}

-- The table has an entry for k.
abbrev Has : List ℕ → ℕ → Type 0
Has t k = get_or t k 0 ≢ 0

-- Each entry is a reciprocal.
abbrev Right : ℕ → List ℕ → Type 0
Right p t = (k : ℕ) → Has t k → Reciprocal p k (get_or t k 0)

pub record TableFilled (p : ℕ) (t : List ℕ) (a : ℕ) : Type 0 where
  pub modulus : Modulus p
  pub space : length t ≡ largest_modulus
  pub above_zero : 0 < a
  pub within : a ≤ p
  pub right : Right p t
  pub pairs : (k : ℕ) → Has t k → Has t (get_or t k 0)
  pub before : (k : ℕ) → 0 < k → k < a → Has t k

-- A table of zeros, read.
zeros-at : (n k a : ℕ) → get_or (replicate n a) k a ≡ a
zeros-at n k a = by_cases (dec_lt k n) (λ h. get_or-replicate n k a a h) (λ h. get_or-eq_default (replicate n a) a (omega (arith, length-replicate n a)))

pub reciprocals-none : (p : ℕ) → Modulus p → TableFilled p (replicate largest_modulus 0) 1
reciprocals-none p m = record {
  modulus = m;
  space = length-replicate {A = ℕ} largest_modulus 0;
  above_zero = omega arith;
  within = omega arith;
  right = λ k h. absurd (h (zeros-at largest_modulus k 0));
  pairs = λ k h. absurd (h (zeros-at largest_modulus k 0));
  before = λ k h l. absurd (omega arith);
}

-- The pair the other way round.
reciprocal-swap : {p a b : ℕ} → a < p → Reciprocal p a b → Reciprocal p b a
reciprocal-swap {p} {a} {b} h s = record { below = h; inverse = product_mod-comm p b a ∙ s.inverse }

pub filled-none-below : (p : ℕ) (t : List ℕ) (a : ℕ) → TableFilled p t a → a < p → get_or t a 0 ≡ 0 → (b : ℕ) → b < a → ¬ (product_mod p a b ≡ 1)
filled-none-below p t a f h e b l q =
    let s : Reciprocal p a b = record { below = omega arith; inverse = q } in
    let n = f.before b (reciprocal-positive p a b s) l in
    let u : get_or t b 0 ≡ a = reciprocal-unique p b _ a (f.right b n) (reciprocal-swap h s) in
    subst (Has t) u (f.pairs b n) e

-- A reciprocal is stored.
module _ (p : ℕ) (t : List ℕ) (i v : ℕ) (l : i < length t) (s : Reciprocal p i v) where
  stored_here : Has (set t i v) i
  stored_here e = let o = reciprocal-positive p i v s in omega (arith, get_or-set_same t i v 0 l)

  stored-keeps : (k : ℕ) → Has t k → Has (set t i v) k
  stored-keeps k h = by_cases (ℕ_discrete k i) (λ e. subst (Has (set t i v)) (sym e) stored_here) (λ n. subst (◌≢ 0) (sym (get_or-set_other t i k v 0 n)) h)

  stored-right : Right p t → Right p (set t i v)
  stored-right r k h = by_cases (ℕ_discrete k i)
      (λ e. rw (e, get_or-set_same t i v 0 l) s)
      (λ n. subst (Reciprocal p k) (sym (get_or-set_other t i k v 0 n)) (r k (subst (◌≢ 0) (get_or-set_other t i k v 0 n) h)))

-- A pair is stored, the reciprocal of each number at its place.
module _ (p : ℕ) (t : List ℕ) (i j : ℕ) (m : p ≤ length t) (h : i < p) (s : Reciprocal p i j) where
  abbrev t' : List ℕ
  t' = set t i j

  abbrev t'' : List ℕ
  t'' = set t' j i

  room : i < length t
  room = omega arith

  room' : j < length t'
  room' = omega (arith, length-set t i j, s.below)

  pair-keeps : (k : ℕ) → Has t k → Has t'' k
  pair-keeps k n = stored-keeps p t' j i room' (reciprocal-swap h s) k (stored-keeps p t i j room s k n)

  pair-right : Right p t → Right p t''
  pair-right r = stored-right p t' j i room' (reciprocal-swap h s) (stored-right p t i j room s r)

  pair_first : Has t'' i
  pair_first = stored-keeps p t' j i room' (reciprocal-swap h s) i (stored_here p t i j room s)

  pair_second : Has t'' j
  pair_second = stored_here p t' j i room' (reciprocal-swap h s)

  module _ (right : Right p t) where
    -- An entry is the reciprocal that is known.
    pair-entry : (k v : ℕ) → Has t'' k → Reciprocal p k v → Has t'' v → Has t'' (get_or t'' k 0)
    pair-entry k v n r u = subst (Has t'') (sym (reciprocal-unique p k _ v (pair-right right k n) r)) u

    pair-pairs : ((k : ℕ) → Has t k → Has t (get_or t k 0)) → (k : ℕ) → Has t'' k → Has t'' (get_or t'' k 0)
    pair-pairs pairs k n = by_cases (ℕ_discrete k j) (λ e. pair-entry k i n (subst (λ l. Reciprocal p l i) (sym e) (reciprocal-swap h s)) pair_first)
        (λ u. by_cases (ℕ_discrete k i) (λ e. pair-entry k j n (subst (λ l. Reciprocal p l j) (sym e) s) pair_second)
        (λ v. let o : Has t k = subst (◌≢ 0) (get_or-set_other t' j k i 0 u ∙ get_or-set_other t i k j 0 v) n in pair-entry k _ n (right k o) (pair-keeps _ (pairs k o))))

pub pair-stored : (p : ℕ) (t : List ℕ) (a i j : ℕ) → TableFilled p t a → i < p → Reciprocal p i j → TableFilled p (set (set t i j) j i) a
pair-stored p t a i j f h s = record {
  modulus = f.modulus;
  space = length-set (set t i j) j i ∙ length-set t i j ∙ f.space;
  above_zero = f.above_zero;
  within = f.within;
  right = pair-right p t i j room h s f.right;
  pairs = pair-pairs p t i j room h s f.right f.pairs;
  before = λ k l m. pair-keeps p t i j room h s k (f.before k l m);
}
  where
    room : p ≤ length t
    room = omega (arith, f.space, f.modulus.size)

pub filled-over : (p : ℕ) (t : List ℕ) (a : ℕ) → TableFilled p t a → a < p → get_or t a 0 ≢ 0 → TableFilled p t (a + 1)
filled-over p t a f h n = record {
  modulus = f.modulus;
  space = f.space;
  above_zero = omega arith;
  within = omega arith;
  right = f.right;
  pairs = f.pairs;
  before = λ k l m. ⊎_elim (λ e. subst (Has t) (sym e) n) (λ u. f.before k l u) (eq-or-lt_of_le (omega arith));
}

pub reciprocals-more : (p : ℕ) (t : List ℕ) (a b : ℕ) → TableFilled p t a → a < p → Reciprocal p a b → TableFilled p (set (set t a b) b a) (a + 1)
reciprocals-more p t a b f h s =
    filled-over p _ a (pair-stored p t a a b f h s) h (pair_first p t a b (omega (arith, f.space, f.modulus.size)) h s)

-- (p - a)·(p - b) and a·b differ by multiples of p.
opposite-product : (p a b : ℕ) → a ≤ p → b ≤ p → (a + b) * p + (p - a) * (p - b) ≡ p * p + a * b
opposite-product p a b h k =
    let x : a + (p - a) ≡ p = omega arith in
    let y : b + (p - b) ≡ p = omega arith in
    omega (arith, ap (a *◌) y, ap (p *◌) y, ap ((p - b) *◌) x)

pub reciprocal-opposite : (p a b : ℕ) → 0 < a → a < p → Reciprocal p a b → Reciprocal p (p - a) (p - b)
unfolding product_mod
reciprocal-opposite p a b h k s = record {
  below = omega (arith, reciprocal-positive p a b s);
  inverse =
      sym (mul-add-mod_self_right (a + b) p ((p - a) * (p - b)))
      ∙ ap (◌% p) (opposite-product p a b (omega arith) (omega (arith, s.below)))
      ∙ mul-add-mod_self_right p p (a * b)
      ∙ s.inverse;
}

pub opposites-stored : (p : ℕ) (t : List ℕ) (c a b : ℕ) → TableFilled p t c → 0 < a → a < p → Reciprocal p a b →
    TableFilled p (set (set t (p - a) (p - b)) (p - b) (p - a)) c
opposites-stored p t c a b f h k s = pair-stored p t c (p - a) (p - b) f (omega arith) (reciprocal-opposite p a b h k s)

pub filled-stop : (p : ℕ) (t : List ℕ) (a : ℕ) → TableFilled p t a → p ≤ a → Serves p t
filled-stop p t a f h = record {
  size = f.modulus.size;
  residue = λ k l m. (f.right k (f.before k l (omega arith))).below;
  inverse = λ k l m. (f.right k (f.before k l (omega arith))).inverse;
}
