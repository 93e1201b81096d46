-- Reading goes on recipe by recipe, to the end of the text or to a refusal. Assumes nothing.
use Rattle.std.proofs.Common.{◌≡◌, ℕ, ◌+◌, ◌≤◌, ◌^◌, min, List, [], ◌∷◌, ◌++◌, length, replicate, None, Result, refl, ap, ap₂, sym, subst, ◌∙◌, append_assoc, append-nil, arith}
use Rattle.tokens.specs.Tokens.{Token}
use Rattle.recipe.specs.declared.places.Place.{Place}
use Rattle.recipe.specs.declared.refusals.Refusal.{Refusal}
use Rattle.notation.specs.declared.lent_lists.LentLists.{LentLists}
use Rattle.notation.specs.Grammar.{Tree, SpellsAll}
use Rattle.notation.specs.Fitting.{Room}
use Rattle.notation.specs.Reading.{room}
use Rattle.notation.specs.Tables.{row, padded, numbers_of}
use Rattle.notation.specs.Machine.{Awaited, Used, unused, run, Stops}
use Rattle.notation.specs.Threading.{used_by, used_by_all, rows, all_rows, overwritten}
use Rattle.notation.specs.LentLists.{Listing, Stands}
use Rattle.notation.specs.Taking.{AllShort, TookRecipe}
use Rattle.notation.specs.declared.counts.Counts.{Counts}
use Rattle.notation.specs.Progress.{Progress, Tabled, Halted, TabledOrHalted}
use Rattle.notation.proofs.Turned.{run_top}
use Rattle.notation.proofs.Judged.{run_accepts}
use Rattle.notation.proofs.Threaded.{places_used, rows_long, used_append, rows_append, names_read, holes_read, rows_read, places_read, leaves_read}
use Rattle.notation.proofs.Written.{padded_none, padded_more}

-- a list of zeros, of which no entry is used
no_listing : (list : List ℕ) → list ≡ replicate (length list) 0 → Listing (room (length list)) [] list 0
no_listing list zeros =
    record {
      counted = refl;
      written = zeros ∙ sym (padded_none (length list) 0);
      spelled = λ k d h. absurd (omega arith);
      most_is = refl;
      few = omega arith;
    }

module _ (most : Room) (size : ℕ) (s : List Token) where
  -- before the first token
  pub progress_none : (f : LentLists) → most.places ≡ room (length f.places.now) → most.names ≡ room (length f.names.now) → most.holes ≡ room (length f.holes.now) → most.leaves ≡ f.leaf_room → f.places.now ≡ replicate (length f.places.now) (row 0 0 0) → f.names.now ≡ replicate (length f.names.now) 0 → f.holes.now ≡ replicate (length f.holes.now) 0 → f.counts.places ≡ 0 → f.counts.names ≡ 0 → f.counts.holes ≡ 0 → f.counts.leaves ≡ 0 → AllShort s → Progress most size s s f
  unfolding used_by_all all_rows
  progress_none f p n h l pz nz hz pc nc hc lc short =
      record {
        trees = [];
        front = record { on = λ us sp. sp };
        runs = refl;
        stands =
            record {
              place_room = p;
              leaf_room = l;
              places = pc;
              leaves = lc;
              places_few = omega arith;
              leaves_few = omega arith;
              names = subst (λ m. Listing m [] f.names.now f.counts.names) (sym n) (subst (λ c. Listing (room (length f.names.now)) [] f.names.now c) (sym nc) (no_listing f.names.now nz));
              holes = subst (λ m. Listing m [] f.holes.now f.counts.holes) (sym h) (subst (λ c. Listing (room (length f.holes.now)) [] f.holes.now c) (sym hc) (no_listing f.holes.now hz));
            };
        written = pz ∙ sym (padded_none (length f.places.now) (row 0 0 0));
        short = short;
      }

  module _ (left : List Token) (f : LentLists) (progress : Progress most size s left f) (k : Token) (w : List Token) (first : left ≡ k ∷ w) where
    begun : run most size [] 0 unused s ≡ run most size (Awaited.recipe ∷ []) 0 (used_by_all unused progress.trees) (k ∷ w)
    begun =
        progress.runs
        ∙ ap (λ q. run most size [] 0 (used_by_all unused progress.trees) q) first
        ∙ run_top most size 0 (used_by_all unused progress.trees) k w

    -- the next recipe is refused
    pub progress_halts : (why : Refusal) → Stops most size (Awaited.recipe ∷ []) 0 (used_by_all unused progress.trees) (k ∷ w) why → Halted most size s why
    progress_halts why h = record { at = begun ∙ h.at [] }

    -- it is taken
    pub progress_more : (r : List Token) (g : LentLists) (n : ℕ) → length g.places.now ≡ length f.places.now → TookRecipe most size 0 (used_by_all unused progress.trees) (k ∷ w) r f.places.now g n → Progress most size s r g
    unfolding used_by_all all_rows
    progress_more r g n long R =
        let ts : List Tree = progress.trees in
        let used : Used = used_by_all unused ts in
        let t : Tree = R.tree in
        let after : used_by_all unused (ts ++ t ∷ []) ≡ used_by used t = used_append ts (t ∷ []) unused in
        let here : used.places ≡ length (all_rows unused ts) = places_read ts ∙ ap (λ q. length q) (sym (rows_read ts)) in
        let few : (used_by used t).places ≤ most.places = R.stands.places_few in
        let place_room : most.places ≡ min (length f.places.now) (2 ^ 32) = progress.stands.place_room in
        let bound : length (all_rows unused ts) + length (rows used t) ≤ length f.places.now = omega (arith, places_used t used, rows_long t used) in
        record {
          trees = ts ++ t ∷ [];
          front =
              record {
                on =
                    λ us sp.
                    subst
                    (λ q. SpellsAll s q)
                    (sym (append_assoc ts (t ∷ []) us))
                    (progress.front.on (t ∷ us) (subst (λ q. SpellsAll q (t ∷ us)) (sym first) (SpellsAll.more R.spells sp)));
              };
          runs = begun ∙ R.turns.on [] ∙ ap (λ u. run most size [] 0 u r) (sym after);
          stands = subst (λ u. Stands most u g) (sym after) R.stands;
          written =
              R.written
              ∙ ap₂ (λ m q. overwritten m (rows used t) q) here progress.written
              ∙ padded_more (length f.places.now) (row 0 0 0) (all_rows unused ts) (rows used t) bound
              ∙ ap₂ (λ m q. padded m (row 0 0 0) q) (sym long) (sym (rows_append ts (t ∷ []) unused ∙ ap (λ q. all_rows unused ts ++ q) (append-nil (rows used t))));
          short = R.short;
        }

  -- the text ends
  pub progress_ends : (left : List Token) (f : LentLists) → Progress most size s left f → left ≡ [] → Tabled most s f.places.now f.names.now f.holes.now f.counts
  unfolding run
  progress_ends left f progress e =
      let ts : List Tree = progress.trees in
      let spells : SpellsAll s ts = subst (λ q. SpellsAll s q) (append-nil ts) (progress.front.on [] (subst (λ q. SpellsAll q []) (sym e) SpellsAll.none)) in
      let none : run most size [] 0 unused s ≡ None = progress.runs ∙ ap (λ q. run most size [] 0 (used_by_all unused ts) q) e in
      let stands = progress.stands in
      record {
        trees = ts;
        spells = spells;
        fits = (run_accepts most size s none).1;
        places_are = progress.written ∙ ap (λ q. padded (length f.places.now) (row 0 0 0) q) (rows_read ts);
        names_are = stands.names.written ∙ ap (λ q. padded (length f.names.now) 0 (numbers_of q)) (names_read ts);
        holes_are = stands.holes.written ∙ ap (λ q. padded (length f.holes.now) 0 (numbers_of q)) (holes_read ts);
        place_count = stands.places ∙ places_read ts;
        name_count = stands.names.counted ∙ ap (λ q. length q) (names_read ts);
        hole_count = stands.holes.counted ∙ ap (λ q. length q) (holes_read ts);
        leaf_count = stands.leaves ∙ leaves_read ts;
      }

-- lists that are the same have the same table
pub tabled_along : (most : Room) (size : ℕ) (s : List Token) (places table : List Place) (names spelled holes held : List ℕ) (answer : Result Counts Refusal) → places ≡ table → names ≡ spelled → holes ≡ held → TabledOrHalted most size s table spelled held answer → TabledOrHalted most size s places names holes answer
tabled_along most size s places table names spelled holes held answer p n h t =
    subst
    (λ q. TabledOrHalted most size s q names holes answer)
    (sym p)
    (subst (λ q. TabledOrHalted most size s table q holes answer) (sym n) (subst (λ q. TabledOrHalted most size s table spelled q answer) (sym h) t))
