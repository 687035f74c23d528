-- Cell pools by their ids, as the crates that speak of the table name them.
pub use Rattle.cell_pool.specs.Named.{AreNamed}
