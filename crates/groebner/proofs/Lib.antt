-- The theorems of the crate `groebner`. T1 to T13 are those that docs/MATHEMATICS.md tells.
--   Base: Modules, Linear, Terms, Ground, Lists, Members, LinearMaps
--   Remainders: NormalForms, Division (T1, T2)
--   Ideals and Groebner bases: Ideals, GroebnerBases (T2, T4), DivisionAlgorithm, SPairs, Buchberger (T3), CoprimeLeads, Congruence (T4), Leads, LeadingTerms, ReducedBases, Clear, Uniqueness (T8)
--   Two orders: Spans, Images, OtherLines, ChangeOfOrder (T6, T7), Equivalence (T9)
--   Zero dimension (T5): Decisions, ZeroDimension, PowerLeads
--   Multiplication rows (T13): Variables, DotProducts, ClearLines, NormalCoefficients, Commute, MultiplicationRows
--   Elimination: Elimination, Echelon (T12), RowElimination, CoefficientRows, CoefficientElimination, Coordinates, ImageCoordinates
--   The enumeration (T11): Exponents, RisingLists, Counting, Successors, Next, ReducibleTest, Seen, Enumeration, EnumerationResult, EnumerationEnd,
--     IrreducibleList, EnumerationUnique; its outcome: OrderedTails, EnumerationBasis, EnumerationOutcome (T12)
--   Instance: residues modulo a prime, n variables, grevlex and lex (T10)
--   Document 01's example: Deciding, Computing, Witnesses, Example, Cases, ConversionCases
pub mod Modules
pub mod Linear
pub mod Terms
pub mod Ground
pub mod Lists
pub mod Members
pub mod LinearMaps
pub mod NormalForms
pub mod Division
pub mod Ideals
pub mod GroebnerBases
pub mod DivisionAlgorithm
pub mod SPairs
pub mod Buchberger
pub mod CoprimeLeads
pub mod Congruence
pub mod Leads
pub mod LeadingTerms
pub mod ReducedBases
pub mod Clear
pub mod Uniqueness
pub mod Spans
pub mod Images
pub mod OtherLines
pub mod ChangeOfOrder
pub mod Equivalence
pub mod Decisions
pub mod ZeroDimension
pub mod PowerLeads
pub mod Variables
pub mod DotProducts
pub mod ClearLines
pub mod NormalCoefficients
pub mod Commute
pub mod MultiplicationRows
pub mod Elimination
pub mod Echelon
pub mod RowElimination
pub mod CoefficientRows
pub mod CoefficientElimination
pub mod Coordinates
pub mod ImageCoordinates
pub mod Exponents
pub mod RisingLists
pub mod Counting
pub mod Successors
pub mod Next
pub mod ReducibleTest
pub mod Seen
pub mod Enumeration
pub mod EnumerationResult
pub mod EnumerationEnd
pub mod IrreducibleList
pub mod EnumerationUnique
pub mod OrderedTails
pub mod EnumerationBasis
pub mod EnumerationOutcome
pub mod Instance
pub mod Deciding
pub mod Computing
pub mod Witnesses
pub mod Example
pub mod Cases
pub mod ConversionCases
