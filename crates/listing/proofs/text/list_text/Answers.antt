use Rattle.std.proofs.Common.{refl}
use Rattle.listing.specs.Lists.{Read}
use Rattle.listing.proofs.text.list_text.Goals as goal

pub returns-in-Ok : goal.returns-in-Ok
returns-in-Ok g c = record {
  bytes = c.list_table.ensures.bytes;
  read = Read.listed {lists = record { places = c.read_recipes.new.places; names = c.read_recipes.new.names; holes = c.read_recipes.new.holes; leaves = c.read_recipes.new.leaves }} c.in-Ok.ensures refl c.list_table.ensures.listed;
  added = c.list_table.ensures.added;
}

pub returns-in-Err : goal.returns-in-Err
returns-in-Err g c = record {
  bytes = _;
  read = Read.refused {lists = record { places = c.read_recipes.new.places; names = c.read_recipes.new.names; holes = c.read_recipes.new.holes; leaves = c.read_recipes.new.leaves }} c.in-Err.ensures refl refl;
  added = c.put_refused_text.ensures;
}
