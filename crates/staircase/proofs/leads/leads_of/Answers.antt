-- `leads_of` meets its contract. The loop's invariant: the leading monomials of the first lines are listed.
use mathlib.Core.Path.{◌≡◌, sym, ◌∙◌, ap, ap₂}
use mathlib.Core.List.{[], ◌∷◌, ◌++◌}
use native.Mathlib.Numerals.{add-one}
use native.Mathlib.Omega.{arith}
use borrow.Author.Rules.{rules}
use lib.ListN.{length}
use lib.Seq.{length-take-le, take_all}
use Rattle.lines.specs.LineTerms.{monomial_at}
use Rattle.staircase.specs.Leads.{leads_in}
use Rattle.staircase.specs.Sound.{generator_at}
use Rattle.staircase.proofs.LineElements.{generator-read}
use Rattle.staircase.proofs.LineLeads.{leads-length, leads-more}
use Rattle.staircase.proofs.leads.leads_of.Goals.{After-lead}
use Rattle.staircase.proofs.leads.leads_of.Goals as goal

pub push-requires : goal.push-requires
push-requires c =
    let b = c.args.basis.now in (
      omega arith,
      omega (
        arith,
        leads-length b,
        ap length c.loop-i.invariant,
        length-take-le c.loop-i.i (leads_in b) (omega (arith, leads-length b)),
      ),
    )

-- The leading monomial of line i.
read : (c : After-lead) → c.lead.result ≡ monomial_at (generator_at c.args.basis.now c.loop-i.i) 0
read c = c.lead.ensures ∙ ap (λ ts. monomial_at ts 0) (search (rules, generator-read))

pub loop-i-preserved : goal.loop-i-preserved
loop-i-preserved c =
    let b = c.args.basis.now in
    let lead = read (goal.at.loop-i-preserved c).After-lead in
    rw add-one (c.push.ensures.items ∙ ap₂ (λ xs m. xs ++ (m ∷ [])) c.loop-i.invariant lead ∙ sym (leads-more b c.loop-i.i (omega arith)))

pub returns : goal.returns
returns c =
    let b = c.args.basis.now in
    c.loop-i.invariant ∙ take_all c.loop-i.i (leads_in b) (omega (arith, leads-length b))
