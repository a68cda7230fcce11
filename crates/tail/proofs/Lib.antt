pub mod TailLaws
