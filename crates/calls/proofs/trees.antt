-- The keys of a tree: their order, what stands at a position, totals, and what a queue makes of them.
pub mod KeyOrder
pub mod SortedLaws
pub mod TreeLaws
pub mod TreeTotals
pub mod SixTrees
pub mod AllocReads
pub mod JointLookupLaws
