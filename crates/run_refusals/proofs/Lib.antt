pub mod FirstReasons
