pub mod NodeEnds
pub mod WorkedValues
