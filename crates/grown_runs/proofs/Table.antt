-- Fields of words, words by their names, and what stays as one changes.
pub mod PackedFields
pub mod ReadWords
pub mod PackedWords
pub mod PackedRecords
pub mod WordReads
pub mod WordKinds
pub mod KeptWords
pub mod ClearedWords
