-- Believed. The number of each refusal (document 01, "Refused texts").
--   number r      the number of the refusal r
use Rattle.std.specs.Prelude.{ℕ}
use Rattle.answer.specs.declared.Refusal.{Refusal}
use Rattle.answer.specs.declared.Refusal.TheVariants.{InputTooLong, BadLine, OrderNotGrevlex, BadPrime, BadVariableCount, BadCoefficient, ExponentTooLarge, TermsNotFalling, NotMonic, TooManyLinesOrTerms, EndNumberDiffers, NotReduced, NotZeroDimensional, TooManyStandardMonomials, NotGroebner, OutputTooShort}

-- The number of the refusal.
abbrev pub number : Refusal → ℕ
number InputTooLong = 1
number BadLine = 2
number OrderNotGrevlex = 3
number BadPrime = 4
number BadVariableCount = 5
number BadCoefficient = 6
number ExponentTooLarge = 7
number TermsNotFalling = 8
number NotMonic = 9
number TooManyLinesOrTerms = 10
number EndNumberDiffers = 11
number NotReduced = 12
number NotZeroDimensional = 13
number TooManyStandardMonomials = 14
number NotGroebner = 15
number OutputTooShort = 16
