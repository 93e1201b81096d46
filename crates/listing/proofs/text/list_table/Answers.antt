use Rattle.std.proofs.Common.{◌++◌, refl, subst}
use Rattle.recipe.specs.Sameness.{Sameness}
use Rattle.listing.specs.Listed.{hole_lines, over_lines, tell_lines, TellsListed}
use Rattle.listing.proofs.Adding.{adds_more}
use Rattle.listing.proofs.RootsTold.{roots_told}
use Rattle.listing.proofs.TableListed.{right_listed}
use Rattle.listing.proofs.text.list_table.Goals as goal

pub returns : goal.returns
returns g c =
    let laws : Sameness g.L.Leaf.equates = record {
      reflexive = g.met.L.Leaf.reflexive;
      symmetric = g.met.L.Leaf.symmetric;
      transitive = g.met.L.Leaf.transitive;
    } in
    let told : TellsListed c.open-sheet.result c.roots.result.items c.tell_pairs.new.sheet c.args.lines.now.items c.tell_pairs.new.lines.items = subst (λ rs. TellsListed c.open-sheet.result rs c.tell_pairs.new.sheet c.args.lines.now.items c.tell_pairs.new.lines.items) c.deref.ensures.0 c.tell_pairs.ensures in
    let looked = c.look_at_holes.ensures in
    record {
      bytes = tell_lines told.told ++ over_lines c.roots.result.items ++ hole_lines c.args.names.now c.args.holes.now looked.looked;
      listed = record {
        roots = c.roots.result.items;
        are_roots = roots_told c.args.places.now c.args.leaves.now c.roots.result.items c.roots.ensures;
        told = told.told;
        tells = told.asked;
        looked = looked.looked;
        looks = looked.asked;
        right = right_listed g.L.Leaf.equates laws c.args.places.now c.args.leaves.now 13312 c.open-sheet.result c.tell_pairs.new.sheet told.told looked.looked c.open-sheet.ensures.table c.open-sheet.ensures.told told.right told.sheet looked.right;
        lines = refl;
      };
      added = adds_more told.lines looked.lines;
    }
