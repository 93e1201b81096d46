-- Lists that stay lent, one change after the other. Assumes nothing.
use Rattle.std.proofs.Common.{◌∙◌}
use Rattle.notation.specs.declared.lent_lists.LentLists.{LentLists}
use Rattle.notation.specs.LentLists.{Stays}

pub stays_then : {a b c : LentLists} → Stays a b → Stays b c → Stays a c
stays_then x y =
    record {
      places_lent = y.places_lent ∙ x.places_lent;
      names_lent = y.names_lent ∙ x.names_lent;
      holes_lent = y.holes_lent ∙ x.holes_lent;
      places_long = y.places_long ∙ x.places_long;
      names_long = y.names_long ∙ x.names_long;
      holes_long = y.holes_long ∙ x.holes_long;
      leaf_room = y.leaf_room ∙ x.leaf_room;
      sound = y.sound;
    }
