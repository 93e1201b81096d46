use Rattle.std.proofs.Common.{◌≡◌, List, sym, refl, subst}
use Rattle.specimens.specs.Examples.{AllAsListed, Example, examples, identity, shadowed, renaming, endless, unused_binders, two_binders, twin_parts, equal_rates}
use Rattle.specimens.proofs.Accepted.{identity_right, renaming_right, twin_parts_right, equal_rates_right}
use Rattle.specimens.proofs.Refused.{shadowed_right, endless_right, unused_binders_right, two_binders_right}
use Rattle.specimens.proofs.Tables.{listed, opened}
use Rattle.specimens.proofs.specimen.specimens.Goals as goal

-- `check` accepts each table, by computation
all_listed : AllAsListed examples
unfolding opened
all_listed = (
  listed identity refl tt identity_right,
  (
    listed shadowed refl tt shadowed_right,
    (
      listed renaming refl tt renaming_right,
      (
        listed endless refl tt endless_right,
        (
          listed unused_binders refl tt unused_binders_right,
          (
            listed two_binders refl tt two_binders_right,
            (
              listed twin_parts refl tt twin_parts_right,
              (listed equal_rates refl tt equal_rates_right, tt),
            ),
          ),
        ),
      ),
    ),
  ),
)

pub returns : goal.returns
returns c = let is : ◌≡◌ {A = List Example} _ examples = cc in record { listed = is; right = subst AllAsListed (sym is) all_listed }
