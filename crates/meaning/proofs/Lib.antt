mod Growing
mod Included
mod Drawing
mod Joining
mod Walking
pub mod SliceLaws
pub mod VectorSteps
pub mod VectorGrowth
pub mod SliceVector
mod Examples
mod Elements
pub mod PairLaws
pub mod ArrayLaws
mod PairExamples
mod ArrayExamples
pub mod JustLaws
pub mod Wrapping
pub mod FuseLaws
pub mod NoShrinkLaws
pub mod Settling
pub mod Trying
pub mod SifterLaws
pub mod FilterLaws
pub mod FilterMapLaws
mod WrapExamples
pub mod FirstMember
pub mod SetSteps
pub mod SetShown
mod SetGrowth
pub mod BitSetGrowth
pub mod RangeSubsetGrowth
mod SetExamples
pub mod LazyOptions
pub mod SliceOptionLaws
pub mod PairOptionLaws
mod Picking
pub mod UnionSteps
pub mod UnionGrowth
mod UnionExamples
mod PairUnionExamples
mod ShutFuses
pub mod FlattenEnds
pub mod FlattenSteps
pub mod FlattenGrowth
mod FlattenExamples
mod ReductionExamples
pub mod Reducing
pub mod Promising
pub mod Piling
