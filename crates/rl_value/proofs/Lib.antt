pub mod PlacesLemmas
pub mod SchemaLemmas
