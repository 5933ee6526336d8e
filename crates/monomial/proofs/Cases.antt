-- Comparisons that the documents name, as one list.
--   ComparisonCase     two monomials in n variables, and what the first is against the second
--   compared_as        what the definitions answer: lex, in document 01's order of the variables, and grevlex
--   comparison_cases   the list
--   cases-hold         the definitions answer so on the whole list
use mathlib.Core.Path.{◌≡◌, refl}
use mathlib.Core.List.{List, [], ◌∷◌, map}
use Prim.Native.Nat.{ℕ}
use Rattle.monomial.specs.Rows.{Row}
use Rattle.monomial.specs.Orders.{lex, variables, grevlex}
use Rattle.std.specs.declared.cmp.Ordering.{Ordering}
use Rattle.std.specs.declared.cmp.Ordering.TheVariants.{Less, Greater}

-- Two monomials in n variables; the answers of lex and of grevlex to the first against the second.
pub record ComparisonCase : Type 0 where
  pub n : ℕ
  pub first : Row n
  pub second : Row n
  pub answers : Ordering × Ordering

abbrev pub compared_as : ComparisonCase → Ordering × Ordering
compared_as c = (lex c.n (variables c.n) c.first c.second, grevlex c.n c.first c.second)

abbrev pub comparison_cases : List ComparisonCase
comparison_cases =
    -- x1·x3 and x2^2 (document 01, "Traps in the papers")
    record { n = 3; first = (1, (0, (1, tt))); second = (0, (2, (0, tt))); answers = (Greater, Less) }
    -- x1·x2^2 and x2^3·x3^4 (001, example 1.5)
    ∷ record { n = 3; first = (1, (2, (0, tt))); second = (0, (3, (4, tt))); answers = (Greater, Less) }
    -- x2^2 and x1·x2, x1·x2 and x1^2: the leading monomials of document 01's example
    ∷ record { n = 2; first = (0, (2, tt)); second = (1, (1, tt)); answers = (Less, Less) }
    ∷ record { n = 2; first = (1, (1, tt)); second = (2, (0, tt)); answers = (Less, Less) }
    ∷ []

pub cases-hold : map compared_as comparison_cases ≡ map (λ c. c.answers) comparison_cases
unfolding lex variables grevlex
cases-hold = refl
