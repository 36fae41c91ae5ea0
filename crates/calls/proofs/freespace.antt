-- Buckets and the freespace runs that cover them: the walk that takes buckets, and the runs that a discard joins.
pub mod BucketLaws
pub mod UpLaws
pub mod CoverLaws
pub mod RunLaws
pub mod TakenAscend
pub mod JoinLaws
