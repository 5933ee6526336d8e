-- `first_variable` meets its contract: the place of the first exponent that is not 0, if there is one.
use Rattle.std.proofs.Common.{arith, rules, ◌≡◌, ◌∙◌, ℕ, ◌<◌, List, take, get_or, Some, None}
use Rattle.monomial.specs.declared.Exponent.{Exponent}
use Rattle.monomial.proofs.Places.{exponent-front}
use Rattle.monomial.proofs.variable.first_variable.Goals.{After-position}
use Rattle.monomial.proofs.variable.first_variable.Goals as goal

-- The exponent at place k of a list.
abbrev at : List Exponent → ℕ → ℕ
at l k = (get_or l k (record { 0 = 0 })).0

found : (c : After-position) → let l = take c.args.n c.args.m.e in
    (i : ℕ) → c.position.result ≡ Some i → (i < c.args.n) × (0 < at l i) × ((k : ℕ) → k < i → at l k ≡ 0)
found c = search rules

nowhere : (c : After-position) → let l = take c.args.n c.args.m.e in
    c.position.result ≡ None → (k : ℕ) → k < c.args.n → at l k ≡ 0
nowhere c = search rules

pub returns : goal.returns
returns c = record {
  some = λ i e.
      let (h, f, b) = found c i e in
      record { within = h; found = omega (arith, exponent-front _ i c.args.m h); first = λ k u. exponent-front _ k _ (omega arith) ∙ b k u };
  none = λ e k h. exponent-front _ k _ h ∙ nowhere c e k h;
}
