-- Inner contracts. What a sink has after bytes are put into it.
--   SinkLaws takes after              a sink that takes bytes one after the other
--   CountTakes c n, counted c bs      the count: it takes any bytes; their number is added, up to the largest number
--   FrontTakes f n, written f bs      the front of a lent slice: it takes what it has room for; the bytes stand there, and its place is the one after them
--   count_laws, front_laws            both are such sinks
use Rattle.std.specs.Prelude.{ℕ, suc, ◌+◌, ◌-◌, ◌^◌, ◌≤◌, ◌≡◌, [], ◌∷◌, ◌++◌, length, min}
use Rattle.std.proofs.Common.{ap, ap₂, arith, length-append, add-zero, add-suc, suc-add, set}
use Rattle.std.proofs.lemmas.List.Edits.{sets}
use lib.Seq.{length-sets}
use Rattle.lists.specs.Lists.{Bytes}
use Rattle.tabtext.specs.declared.sink.Count.{Count}
use Rattle.tabtext.specs.declared.sink.Front.{Front}

-- Bytes put in parts are put, and there is room for parts where there is room for all.
pub record SinkLaws {S : Type 0} (takes : S → ℕ → Type 0) (after : S → Bytes → S) : Type 0 where
  pub nothing : (s : S) → after s [] ≡ s
  pub joined : (s : S) (a b : Bytes) → after (after s a) b ≡ after s (a ++ b)
  pub first : (s : S) (m n : ℕ) → takes s (m + n) → takes s m
  pub rest : (s : S) (a : Bytes) (n : ℕ) → takes s (length a + n) → takes (after s a) n

-- Any number of bytes.
abbrev pub CountTakes : Count → ℕ → Type 0
CountTakes c n = Unit {0}

abbrev count_of : ℕ → Count
count_of n = record { bytes = n }

-- The bytes are added to the count, which stays at the largest number.
abbrev pub counted : Count → Bytes → Count
counted c bs = count_of (c.bytes + min (length bs) ((2 ^ 64 - 1) - c.bytes))

pub count_laws : SinkLaws CountTakes counted
count_laws = record {
  nothing = λ c. ap count_of (omega arith);
  joined = λ c a b. ap count_of (omega (arith, length-append a b));
  first = λ c m n t. tt;
  rest = λ c a n t. tt;
}

-- As many bytes as there is room for.
abbrev pub FrontTakes : Front → ℕ → Type 0
FrontTakes f n = f.at + n ≤ length f.out.now

-- The same slice, with other bytes, and a place.
abbrev front_of : Front → Bytes → ℕ → Front
front_of f bs at = record { out = record { ref_ptr = f.out.ref_ptr; ghost_name = f.out.ghost_name; now = bs }; at = at }

-- The slice with the bytes written from the place on, and the place after them.
abbrev pub written : Front → Bytes → Front
written f bs = front_of f (sets f.out.now f.at bs) (f.at + length bs)

-- Two parts, one after the other.
sets-append : (a b l : Bytes) (i : ℕ) → sets (sets l i a) (i + length a) b ≡ sets l i (a ++ b)
sets-append [] b l i = rw add-zero
sets-append (x ∷ a) b l i = rw (add-suc, ← suc-add) (sets-append a b (set l i x) (suc i))

pub front_laws : SinkLaws FrontTakes written
front_laws = record {
  nothing = λ f. ap (front_of f f.out.now) (add-zero f.at);
  joined = λ f a b. ap₂ (front_of f) (sets-append a b f.out.now f.at) (omega (arith, length-append a b));
  first = λ f m n t. omega arith;
  rest = λ f a n t. omega (arith, length-sets f.out.now f.at a);
}
