-- Inner contracts. A list of lines of which one is stored.
--   put_at l k x          the list l with x at place k; behind all, where l has no more than k elements
--   stored_line ls k      the terms of line k
--   stored_term ls k j    term j of line k
--   put_term ls k j t     the lines ls with t for term j of line k, if there is one
--   LinePut ls k g ls'    ls' has the line g at place k, and the lines of ls at theirs
use Rattle.std.specs.Prelude.{ℕ, suc, ◌≡◌, ◌<◌, ◌≤◌, List, [], ◌∷◌, ◌++◌, length, take, drop, set, get_or}
use Rattle.arrayvec.specs.ArrayVec.{ArrayVec}
use Rattle.lines.specs.LineTerms.{no_term, terms_in, terms_of_lines}
use Rattle.lines.specs.declared.line.LineTerm.{LineTerm}

-- x stands at place k, in place of what stood there; behind all, if nothing did.
abbrev pub put_at : {A : Type 0} → List A → ℕ → A → List A
put_at l k x = take k l ++ (x ∷ drop (suc k) l)

-- The terms of line k; none past the end.
abbrev pub stored_line : List (ArrayVec LineTerm) → ℕ → List LineTerm
stored_line ls k = (get_or ls k (record { items = [] })).items

-- Term j of line k; no term past its end.
abbrev pub stored_term : List (ArrayVec LineTerm) → ℕ → ℕ → LineTerm
stored_term ls k j = get_or (stored_line ls k) j no_term

-- The lines with t for term j of line k; as they were, if there is none.
abbrev pub put_term : List (ArrayVec LineTerm) → ℕ → ℕ → LineTerm → List (ArrayVec LineTerm)
put_term ls k j t = set ls k (record { items = set (stored_line ls k) j t })

-- At place k stands g, whole: its number of terms, their coefficients and all their exponents. Every other place holds what it held, and there is
-- one line more if none stood there. So it is of the lines' terms as numbers.
pub record LinePut (ls : List (ArrayVec LineTerm)) (k : ℕ) (g : ArrayVec LineTerm) (ls' : List (ArrayVec LineTerm)) : Type 0 where
  pub whole : ls' ≡ put_at ls k g
  pub count : (k < length ls → length ls' ≡ length ls) × (length ls ≤ k → length ls' ≡ suc (length ls))
  pub own : k ≤ length ls → (d : ArrayVec LineTerm) → get_or ls' k d ≡ g
  pub others : k ≤ length ls → (j : ℕ) (d : ArrayVec LineTerm) → ¬ (j ≡ k) → get_or ls' j d ≡ get_or ls j d
  pub terms : (n : ℕ) → terms_of_lines n ls' ≡ put_at (terms_of_lines n ls) k (terms_in n g.items)
