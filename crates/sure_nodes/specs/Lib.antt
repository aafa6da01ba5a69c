pub mod SureNodes
