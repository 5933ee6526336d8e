-- `check_header` meets its contract.
use Prim.Native.Nat.{◌-◌}
use mathlib.Core.Path.{◌≡◌, refl, sym, ◌∙◌}
use mathlib.Core.Bool.{false≢true}
use mathlib.Core.Logic.{inl}
use native.Mathlib.Omega.{arith}
use borrow.Author.Tests.{ltb-false}
use lib.ListN.{take, drop}
use Rattle.lists.specs.Lists.{Bytes}
use Rattle.residue.specs.Prime.{Modulus}
use Rattle.tabtext.specs.Text.{bytes}
use Rattle.checks.proofs.GoodLines.{met}
use Rattle.checks.proofs.header.check_header.Goals.{Else-not-is_grevlex, Else-not-is_modulus, Start, then-h-lt1-via-then-h-lt1, then-h-lt1-via-else-h-lt1+then-h}
use Rattle.checks.proofs.header.check_header.Goals as goal

-- The order word.
abbrev order : Start → Bytes
order c = let o = c.args.h.order in take (o.end - o.start) (drop o.start c.args.text.now)

grevlex : (c : Else-not-is_grevlex) → order (goal.at.Else-not-is_grevlex c).Start ≡ bytes "grevlex"
grevlex c = c.is_grevlex.ensures.0 c.if-not-is_grevlex.false

modulus : (c : Else-not-is_modulus) → Modulus c.args.h.p
modulus c = c.is_modulus.ensures.0 c.if-not-is_modulus.false

pub returns-then-not-is_grevlex : goal.returns-then-not-is_grevlex
returns-then-not-is_grevlex c = inl (λ h. false≢true (sym c.if-not-is_grevlex.true ∙ c.is_grevlex.ensures.1 h), refl)

pub returns-then-not-is_modulus : goal.returns-then-not-is_modulus
returns-then-not-is_modulus c =
    met (grevlex (goal.at.returns-then-not-is_modulus c).Else-not-is_grevlex) (inl (λ h. false≢true (sym c.if-not-is_modulus.true ∙ c.is_modulus.ensures.1 h), refl))

pub returns-then-h-lt1 : goal.returns-then-h-lt1
returns-then-h-lt1 c =
    met (grevlex (goal.at.returns-then-h-lt1 c).Else-not-is_grevlex) (met (modulus (goal.at.returns-then-h-lt1 c).Else-not-is_modulus) (inl (
      λ h. elim c.then-h-lt1.branch [
        | then-h-lt1-via-then-h-lt1 w ↦ omega (arith, w.if-h-lt1.true)
        | then-h-lt1-via-else-h-lt1+then-h w ↦ omega (arith, w.if-h.true)
      ],
      refl,
    )))

pub returns : goal.returns
returns c =
    met (grevlex (goal.at.returns c).Else-not-is_grevlex) (met (modulus (goal.at.returns c).Else-not-is_modulus) (met (record { some = omega arith; most = omega (arith, ltb-false) }) refl))
