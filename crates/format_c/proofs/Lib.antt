pub mod SizedLaws
