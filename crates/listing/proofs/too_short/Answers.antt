use Rattle.std.proofs.Common.{arith, sym, ◌/◌, length}
use borrow.Author.Tests.{le-ltb}
use Rattle.listing.specs.Listing.{block_lines, listing}
use Rattle.listing.proofs.Bound.{listing_bound}
use Rattle.listing.proofs.too_short.Goals as goal

pub returns-else-room-block : goal.returns-else-room-block
returns-else-room-block c = let a = c.args in
    rw (le-ltb (a.room / 45) (length a.block.now / 4) (omega arith))
    (sym (le-ltb a.room (length (listing (block_lines a.block.now))) (omega (arith, listing_bound a.block.now c.requires.inside))))
