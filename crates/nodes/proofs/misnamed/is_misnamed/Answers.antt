use Rattle.std.proofs.Common.{◌≡◌, Some, sym, ◌∙◌}
use Rattle.nodes.specs.MisnamedRoots.{name_of_form}
use Rattle.nodes.specs.Records.{written_form}
use Rattle.nodes.proofs.MarkedNames.{marked_nameless}
use Rattle.nodes.proofs.misnamed.is_misnamed.Goals as goal

pub returns-in-Some-clause-misnamed : goal.returns-in-Some-clause-misnamed
returns-in-Some-clause-misnamed c =
    let named : name_of_form (written_form c.args.words.now c.args.p) ≡ Some c.in-Some.x = sym c.name_of.ensures ∙ c.in-Some.is in (
      λ e. record { name = c.in-Some.x; named = named; spoiled = c.is_spoiled.ensures.spoiled.0 e },
      λ w. let at = w.named in let same : w.name ≡ c.in-Some.x = cc in c.is_spoiled.ensures.spoiled.1 (rw same at w.spoiled),
    )

pub returns-in-None-clause-marked : goal.returns-in-None-clause-marked
returns-in-None-clause-marked c =
    λ e. marked_nameless c.args.names_rows.now c.args.rows.now c.args.words.now c.args.names c.args.p c.args.marks.now c.requires.lower (sym c.name_of.ensures ∙ c.in-None.is)
