-- The theorems of the crate `multiplication`, besides those of its functions:
--   NaturalSums    sums of products of numbers, and their residues
--   RowSums        the loop of `times_variable`
--   CommutingRows  rows that commute, by their coefficients
--   NewRows        the three rules for the row of x_i·B_s
--   RowFilling     the rows of the products x_i·B_s, filled in rising order
--   ListPlaces     the place of a rank among those of a list
--   RankQuotients  the ranks of products with a variable and of quotients by one
--   TailTerms      the tail of a line of the code, term by term
--   Passing        the test of `is_detour`
--   RowRules       the three rules for the row of x_i·B_s, by the answers of the code
--   NextProducts   the next products that the code holds
--   Merging        the merge of the next products
--   TableRows      the rows of tables
--   AllRows        the rows below the cursors, filled one after another
--   FillLoop       the loop of `fill`
--   TailRows       the loop of `tail_row`
--   GroebnerTest   rows that commute, or as many lines as variables, are those of a Groebner basis
pub mod NaturalSums
pub mod RowSums
pub mod CommutingRows
pub mod NewRows
pub mod RowFilling
pub mod ListPlaces
pub mod RankQuotients
pub mod TailTerms
pub mod TailRows
pub mod Passing
pub mod RowRules
pub mod NextProducts
pub mod Merging
pub mod TableRows
pub mod AllRows
pub mod FillLoop
pub mod GroebnerTest
