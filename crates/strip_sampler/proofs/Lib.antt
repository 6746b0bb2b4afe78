pub mod QuotaCounts
pub mod GeneratorWords
pub mod DrawnPoints
