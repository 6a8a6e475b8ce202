-- The list of a network without a router.
use Rattle.std.proofs.Common.{◌≡◌, ℕ, ◌≤◌, List, length, Ok, arith}
use Rattle.std.proofs.lemmas.Bool.Decides.{nat_tests}
use Rattle.layout.specs.Table.{nothing}
use Rattle.listing.specs.Listing.{lines_of, list_at, list_bytes}

pub no_lines : (advertised : List ℕ) (room : ℕ) → 512 ≤ room → Ok 0 ≡ list_at nothing advertised room
unfolding lines_of
no_lines advertised room enough = grind (arith, nat_tests, enough)

pub no_bytes : (advertised before : List ℕ) → 512 ≤ length before → before ≡ list_bytes nothing advertised before
unfolding lines_of
no_bytes advertised before enough = grind (arith, nat_tests, enough)
