-- Inner contracts. The places of a list that lies in its value.
--   BlankAfter cap b k l   there are cap places l, and those from k on hold b
--   places-back            the elements fix the places
use Rattle.std.specs.Prelude.{ℕ, ◌≡◌, ◌≤◌, ◌-◌, List, ◌++◌, length, take, drop, replicate}
use Rattle.std.proofs.Common.{sym, ap, subst, ◌∙◌, take-append-drop, length-take-le}

-- k elements, and b in each place after them.
pub record BlankAfter {A : Type 0} (cap : ℕ) (b : A) (k : ℕ) (l : List A) : Type 0 where
  pub fits : k ≤ cap
  pub whole : length l ≡ cap
  pub rest : drop k l ≡ replicate (cap - k) b

-- The elements, and b in the places that they leave, are the places.
pub places-back : {A : Type 0} (cap : ℕ) (b : A) (k : ℕ) (l : List A) → BlankAfter cap b k l
    → (length (take k l) ≡ k) × (take k l ++ replicate (cap - length (take k l)) b ≡ l)
places-back cap b k l h =
    let count : length (take k l) ≡ k = length-take-le k l (subst (λ n. k ≤ n) (sym h.whole) h.fits) in
    (count, ap (λ n. take k l ++ replicate (cap - n) b) count ∙ ap (λ r. take k l ++ r) (sym h.rest) ∙ take-append-drop k l)
