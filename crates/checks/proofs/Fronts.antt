-- The line at the front of a text is the one that is read.
--   front-of-read, read-of-front    a line that is read stands there, and the one that stands there is read
--   no_front                        where none is read, none stands
--   front_same                      one line stands there
--   other-front                     where a line is read, none of another kind stands
--   front-shorter, nothing-front    a line takes a byte at least; none stands at the front of no bytes
--   basis-front                     a basis line stands there for every number of variables
use Prim.Native.Nat.{ℕ, suc, ◌≤◌}
use mathlib.Core.Path.{◌≡◌, ap, sym, subst, ◌∙◌}
use mathlib.Core.List.{[], ◌∷◌, ◌++◌, append_assoc}
use native.Mathlib.Omega.{arith}
use lib.ListN.{length, length-append}
use Rattle.lists.specs.Lists.{Bytes}
use Rattle.tabtext.specs.Text.{TextLine, header, line}
use Rattle.tabtext.specs.Readers.{got, bad, read_line}
use Rattle.tabtext.specs.Printed.{printed}
use Rattle.tabtext.proofs.Steps.{got-value, got-not-bad}
use Rattle.tabtext.proofs.Lines.{read-of-print, print-of-read}
use Rattle.checks.specs.Checks.{Front}

module _ (n : ℕ) (s : Bytes) where
  pub front-of-read : {l : TextLine} {rest : Bytes} → read_line n s ≡ got l rest → Front n s l rest
  unfolding printed
  front-of-read {l} {rest} e =
      let p = print-of-read n s e in
      record { form = p.0; stands = p.1 ∙ sym (append_assoc (line l) (10 ∷ []) rest) }

  pub read-of-front : {l : TextLine} {rest : Bytes} → Front n s l rest → read_line n s ≡ got l rest
  unfolding printed
  read-of-front {l} {rest} f = rw (f.stands, append_assoc) (read-of-print n l rest f.form)

  pub no_front : {l : TextLine} {rest : Bytes} → read_line n s ≡ bad → ¬ Front n s l rest
  no_front e f = got-not-bad (sym (read-of-front f) ∙ e)

  pub front_same : {l l' : TextLine} {rest rest' : Bytes} → read_line n s ≡ got l rest → Front n s l' rest' → l' ≡ l
  front_same e f = got-value (sym (read-of-front f) ∙ e)

-- No line of another kind stands where one is read.
pub other-front : (Kind : TextLine → Type 0) {n : ℕ} {s : Bytes} {l l' : TextLine} {rest rest' : Bytes} → read_line n s ≡ got l rest → ¬ Kind l → Kind l' → ¬ Front n s l' rest'
other-front Kind {n} {s} e m k f = m (subst Kind (front_same n s e f) k)

-- A line takes a byte at least.
pub front-shorter : {n : ℕ} {s : Bytes} {l : TextLine} {rest : Bytes} → Front n s l rest → suc (length rest) ≤ length s
unfolding printed
front-shorter {s} {l} {rest} f =
    omega (arith, ap length f.stands, length-append (line l ++ (10 ∷ [])) rest, length-append (line l) (10 ∷ []))

pub nothing-front : {n : ℕ} {s : Bytes} {l : TextLine} {rest : Bytes} → length s ≤ 0 → ¬ Front n s l rest
nothing-front h f = let k = front-shorter f in omega arith

-- The form of a basis line is the same for every number of variables.
pub basis-front : {m n : ℕ} {s : Bytes} {order : Bytes} {p k : ℕ} {rest : Bytes} → Front m s (header order p k) rest → Front n s (header order p k) rest
basis-front f = record { form = f.form; stands = f.stands }
