-- The laws of the trait `Leaf`, for any test: it is an equivalence. The definition stands in specs/, where contracts cite it.
pub use Rattle.recipe.specs.Sameness.{Sameness}
