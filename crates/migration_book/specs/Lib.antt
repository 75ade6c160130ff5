pub mod MigrateLoad
pub mod Inner
pub mod Growth
