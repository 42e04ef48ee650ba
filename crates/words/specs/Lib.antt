-- Eight pixels as one word, and the tables that such words are made from.
pub mod Words
